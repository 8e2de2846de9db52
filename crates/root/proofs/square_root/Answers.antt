-- `root::square_root` meets its contract. x is the number that its bits stand for, so each root is that of the bits (`Answers.antt`). Assumes nothing.
use Rattle.std.proofs.Common.{◌≡◌, ℕ, zero, suc, ◌+◌, ◌-◌, ◌*◌, ◌/◌, ◌%◌, ◌^◌, ◌<◌, ◌≤◌, false, T, sym, refl, ap, ◌∙◌, subst, lt_of_lt_of_le, mod-eq_of_lt, add_comm, mul-one, arith, lit≤}
use lib.Ieee.{Float, binary64, fits, of_bits, to_bits}
use lib.Ieee.Bits.{of_bits-to_bits, to_bits-lt}
use lib.Ieee.Exact.{HasValue}
use Rattle.real.proofs.Patterns.{not-nan}
use Rattle.root.specs.Root.{root_of, joined_bits}
use Rattle.root.proofs.Roots.{joined_is, few-places}
use Rattle.root.proofs.Patterns.{small-value, normal-value}
use Rattle.root.proofs.Answers.{root-at-nan, root-at-zero, root-at-minus-zero, root-at-infinity, root-at-none, root-at-bits, bits-no-nan}
use mathlib.Core.Bool.{true}
use Rattle.root.proofs.square_root.Goals as goal
use Rattle.root.proofs.square_root.Goals.{then-wrapping_sub_u64-ge9214364837600034816+else-b-eq0+else-b+else-b-eq9218868437227405312+else-b-gt9218868437227405312, else-wrapping_sub_u64-ge9214364837600034816}

-- ---- the two kinds of number above 0: what is ready to be joined

pub record Ready (b sig p : ℕ) : Type 0 where
  pub finite : b < 9218868437227405312
  pub least : 4503599627370496 ≤ sig
  pub most : sig < 9007199254740992
  pub from : 972 ≤ p
  pub under : p < 3070
  pub bits : joined_bits sig p ≡ to_bits binary64 (root_of (of_bits binary64 b))

-- below 2 ^ 52, by the tests
small_b : (b w : ℕ) → (w + 4503599627370496) % 2 ^ 64 ≡ b → 9214364837600034816 ≤ w → b ≤ 9218868437227405312 → (b ≡ 9218868437227405312 → ⊥) → w < 18446744073709551616 → b < 4503599627370496
small_b b w e h k n l = omega arith

small-ready : (b c : ℕ) → b < 4503599627370496 → 0 < b → 4503599627370496 ≤ b * 2 ^ c → b * 2 ^ c < 9007199254740992 → Ready b (b * 2 ^ c % 18446744073709551616) (1024 - c)
small-ready b c h some lo hi =
    let m = mod-eq_of_lt (lt_of_lt_of_le {k = 18446744073709551616} hi (lit≤ tt)) in
    let l : c < 53 = few-places b c some hi in
    record {
      finite = omega arith;
      least = subst (λ (x : ℕ). 4503599627370496 ≤ x) (sym m) lo;
      most = subst (λ (x : ℕ). x < 9007199254740992) (sym m) hi;
      from = omega arith;
      under = omega arith;
      bits =
          ap (λ (x : ℕ). joined_bits x (1024 - c)) m
          ∙ joined_is (of_bits binary64 b) b (b * 2 ^ c) (1024 - c) c 0 (subst (λ (x : ℕ). HasValue (of_bits binary64 b) false x (2 ^ 1074)) (mod-eq_of_lt h) (small-value b (omega arith))) (sym (mul-one (b * 2 ^ c))) (omega arith) (omega arith) (omega arith) lo hi;
    }

normal-ready : (b w : ℕ) → (w + 4503599627370496) % 2 ^ 64 ≡ b → w < 9214364837600034816 → Ready b (b % 4503599627370496 + 4503599627370496) (b / 4503599627370496 + 1023)
normal-ready b w g h = record {
  finite = omega arith;
  least = omega arith;
  most = omega arith;
  from = omega arith;
  under = omega arith;
  bits = go (b / 4503599627370496) refl (omega arith) (omega arith);
}
  where
    go : (e : ℕ) → b / 4503599627370496 ≡ e → 4503599627370496 ≤ b → b < 9218868437227405312 → joined_bits (b % 4503599627370496 + 4503599627370496) (e + 1023) ≡ to_bits binary64 (root_of (of_bits binary64 b))
    go zero g l h = absurd (omega arith)
    go (suc j) g l h =
        let t = b % 4503599627370496 in
        joined_is (of_bits binary64 b) ((4503599627370496 + t) * 2 ^ j) (t + 4503599627370496) (suc j + 1023) 0 j (normal-value b j g h)
        (mul-one ((4503599627370496 + t) * 2 ^ j) ∙ ap (λ (x : ℕ). x * 2 ^ j) (add_comm 4503599627370496 t)) (omega arith) (omega arith) (omega arith) (omega arith) (omega arith)

-- the same at a join
moved : (b sig p sig' p' : ℕ) → sig' ≡ sig → p' ≡ p → Ready b sig p → Ready b sig' p'
moved b sig p sig' p' e f v = rw (e, f) v

-- ---- x and its bits

held : (x : Float) → fits binary64 x ≡ true → T (fits binary64 x)
held x e = subst T (sym e) tt

-- a pattern that gives itself
itself : (x : Float) (b : ℕ) → to_bits binary64 x ≡ b → of_bits binary64 (to_bits binary64 x) ≡ x → of_bits binary64 b ≡ root_of (of_bits binary64 b) → x ≡ root_of x
itself x b e a h = subst (λ (y : Float). y ≡ root_of y) (sym (ap (of_bits binary64) e) ∙ a) h

few : (c : goal.After-places-c) → c.places-c.result < 53
few c = few-places _ c.places-c.result (omega arith) c.places-c.ensures.1

ready : (c : goal.Joined-wrapping_sub_u64-ge9214364837600034816) → Ready (to_bits binary64 c.args.x) c.if-wrapping_sub_u64-ge9214364837600034816.sig c.if-wrapping_sub_u64-ge9214364837600034816.p
ready c =
    let b = to_bits binary64 c.args.x in
    let d = c.wrapping_sub_u64 in
    elim c.if-wrapping_sub_u64-ge9214364837600034816.branch [
      | then-wrapping_sub_u64-ge9214364837600034816+else-b-eq0+else-b+else-b-eq9218868437227405312+else-b-gt9218868437227405312 w ↦ moved b _ _ c.if-wrapping_sub_u64-ge9214364837600034816.sig c.if-wrapping_sub_u64-ge9214364837600034816.p w.sig-is w.p-is (small-ready b w.places-c.result (small_b b d.result d.ensures.value w.if-wrapping_sub_u64-ge9214364837600034816.true w.if-b-gt9218868437227405312.false w.if-b-eq9218868437227405312.false (omega arith)) (pos b w.if-b-eq0.false) w.places-c.ensures.0 w.places-c.ensures.1)
      | else-wrapping_sub_u64-ge9214364837600034816 w ↦ moved b _ _ c.if-wrapping_sub_u64-ge9214364837600034816.sig c.if-wrapping_sub_u64-ge9214364837600034816.p w.sig-is w.p-is (normal-ready b d.result d.ensures.value w.if-wrapping_sub_u64-ge9214364837600034816.false)
    ]
  where
    pos : (b : ℕ) → (b ≡ 0 → ⊥) → 0 < b
    pos b h = omega arith

pub returns-then-x : goal.returns-then-x
returns-then-x c = root-at-nan c.args.x c.if-x.true

pub float_to_bits-b : goal.float_to_bits-b
float_to_bits-b c = not-nan c.args.x c.if-x.false

pub overflow_add-p : goal.overflow_add-p
overflow_add-p c = omega (arith, to_bits-lt binary64 c.args.x (held c.args.x c.well_formed.0.1))

pub returns-then-b-eq0 : goal.returns-then-b-eq0
returns-then-b-eq0 c = itself c.args.x 0 c.if-b-eq0.true (let again : of_bits binary64 (to_bits binary64 c.args.x) ≡ c.args.x = of_bits-to_bits binary64 c.args.x (held c.args.x c.well_formed.0.1) in again) root-at-zero

pub returns-then-b : goal.returns-then-b
returns-then-b c = itself c.args.x 9223372036854775808 c.if-b.true (let again : of_bits binary64 (to_bits binary64 c.args.x) ≡ c.args.x = of_bits-to_bits binary64 c.args.x (held c.args.x c.well_formed.0.1) in again) root-at-minus-zero

pub returns-then-b-eq9218868437227405312 : goal.returns-then-b-eq9218868437227405312
returns-then-b-eq9218868437227405312 c = itself c.args.x 9218868437227405312 c.if-b-eq9218868437227405312.true (let again : of_bits binary64 (to_bits binary64 c.args.x) ≡ c.args.x = of_bits-to_bits binary64 c.args.x (held c.args.x c.well_formed.0.1) in again) root-at-infinity

pub returns-then-b-gt9218868437227405312 : goal.returns-then-b-gt9218868437227405312
returns-then-b-gt9218868437227405312 c =
    let b = to_bits binary64 c.args.x in
    root-at-none b c.if-b-gt9218868437227405312.true c.if-b.false (to_bits-lt binary64 c.args.x (held c.args.x c.well_formed.0.1)) ∙ ap root_of (let again : of_bits binary64 (to_bits binary64 c.args.x) ≡ c.args.x = of_bits-to_bits binary64 c.args.x (held c.args.x c.well_formed.0.1) in again)

pub overflow_shl-sig : goal.overflow_shl-sig
overflow_shl-sig c = omega (arith, few c)

pub overflow_sub-p : goal.overflow_sub-p
overflow_sub-p c = omega (arith, few c)

pub joined-requires : goal.joined-requires
joined-requires c = let r = ready c in (r.least, r.most, r.from, r.under)

pub float_from_bits-result : goal.float_from_bits-result
float_from_bits-result c =
    let r = ready c.before in
    bits-no-nan (to_bits binary64 c.args.x) c.joined.result r.finite (c.joined.ensures ∙ r.bits)

pub returns : goal.returns
returns c =
    let r = ready c.before in
    root-at-bits (to_bits binary64 c.args.x) c.joined.result (c.joined.ensures ∙ r.bits) ∙ ap root_of (let again : of_bits binary64 (to_bits binary64 c.args.x) ≡ c.args.x = of_bits-to_bits binary64 c.args.x (held c.args.x c.well_formed.0.1) in again)
