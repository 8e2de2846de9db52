-- Why a solve that is asked for refuses, or that it does not. Assumes nothing: these are definitions.
use Rattle.refusal.specs.declared.Refusal.{Refusal}
use Rattle.settings.specs.declared.allowed.Setting.{Setting}
use Rattle.std.specs.Prelude.{ℕ, List, Err, Ok, Result}
use Rattle.forms.specs.declared.Solve.{Solve}
use Rattle.forms.specs.declared.Solve.TheVariants.{Kepler, Lambert, Theta, Apsides}
use Rattle.forms.specs.declared.Version.{Version}
use Rattle.forms.specs.declared.Version.TheVariants.{Standard, Named}
use Rattle.settings.specs.History.{look_up}
use Rattle.reason.specs.Reasons.{Reason}
use Rattle.reason.specs.declared.Reason.TheVariants.{Settings}
use Rattle.why.specs.Why.{why_advance, why_transfer}
use Rattle.why_direct.specs.Why.{why_time, why_apsides}

-- 30 and 23 are ahead of the solve's own numbers where a version is named; else the settings are not looked at
unfoldable pub found_by : Result Setting Refusal → Reason → Reason
found_by (Ok x) r = r
found_by (Err n) r = Settings n

unfoldable pub settled_by : List ℕ → Version → Reason → Reason
settled_by used Standard r = r
settled_by used (Named k) r = found_by (look_up used k) r

unfoldable pub inquiry_of : List ℕ → Solve → Reason
inquiry_of used (Kepler mu state time beginning limit version) = settled_by used version (why_advance mu state time limit beginning)
inquiry_of used (Lambert mu first second time way beginning limit version) =
    settled_by used version (why_transfer mu first second way time limit beginning)
inquiry_of used (Theta mu state sine cosine) = why_time mu state sine cosine
inquiry_of used (Apsides mu state) = why_apsides mu state
