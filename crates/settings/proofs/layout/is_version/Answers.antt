-- The tests in their order. Assumes nothing.
use Rattle.std.specs.Prelude.{is_none}
use Rattle.std.proofs.Common.{◌≡◌, ℕ, Bool, true, eqb, sym, ap, ◌∙◌, true≢false}
use Rattle.std.proofs.lemmas.Bool.{eq-eqb, eqb-true}
use Rattle.field.specs.Bytes.{field}
use Rattle.settings.specs.Allowed.{refusal_of}
use Rattle.settings.proofs.Allows.{none-tested}
use Rattle.settings.proofs.layout.is_version.Goals.{then-read-eq44, else-read-eq44, then-read-eq5, else-read-eq5, then-read-k, else-read-k}
use Rattle.settings.proofs.layout.is_version.Goals as goal

same : {a b d : ℕ} {v : Bool} → d ≡ a → v ≡ eqb d b → v ≡ true → a ≡ b
same p e t = sym p ∙ eqb-true _ _ (sym e ∙ t)

pub returns-then-read-eq0 : goal.returns-then-read-eq0
returns-then-read-eq0 c =
    let s = c.args.s.now in
    let three : (c.if-read-eq5.value ≡ true) × (field 9 3 s ≡ 0) = elim c.if-read-k.branch [
      | then-read-k w ↦ (w.if-read-k.true, same w.read-then-read-k.ensures.value w.value-is c.if-read-eq0.true)
      | else-read-k w ↦ absurd (true≢false (sym c.if-read-eq0.true ∙ w.value-is ∙ w.if-read-k.false))
    ] in
    let two : (c.if-read-eq44.value ≡ true) × (field 4 4 s ≡ c.args.k) = elim c.if-read-eq5.branch [
      | then-read-eq5 w ↦ (w.if-read-eq5.true, same w.read-then-read-eq5.ensures.value w.value-is three.0)
      | else-read-eq5 w ↦ absurd (true≢false (sym three.0 ∙ w.value-is ∙ w.if-read-eq5.false))
    ] in
    let one : (field 0 2 s ≡ 44) × (field 2 2 s ≡ 5) = elim c.if-read-eq44.branch [
      | then-read-eq44 w ↦ (sym c.read.ensures.value ∙ w.if-read-eq44.true, same w.read-then-read-eq44.ensures.value w.value-is two.0)
      | else-read-eq44 w ↦ absurd (w.if-read-eq44.false (eqb-true _ _ (sym w.value-is ∙ two.0)))
    ] in
    simp (eq-eqb _ _ one.0, eq-eqb _ _ one.1, eq-eqb _ _ two.1, eq-eqb _ _ three.1)
    (none-tested _ _ c.is_none.ensures ∙ ap is_none (c.refusal_of.ensures ∙ ap refusal_of c.setting_of.ensures))
