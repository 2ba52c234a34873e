-- Another code, other octets, or the text of the profile. Assumes nothing.
use borrow.Author.Tests.{not-true, not-false}
use mathlib.Core.Path.{sym, ◌∙◌}
use native.Mathlib.Omega.{arith}
use Rattle.octets.proofs.Parts.{slice_octets}
use Rattle.writing.proofs.Values.{Profile, profile}
use Rattle.writing.proofs.Valuing.{profile_other, profile_none, profile_put}
use Rattle.writing.proofs.put_qos.Goals as goal

-- the release and the octets behind it
held : (k : goal.After-put_profile-arg-1) → Profile k.args.stored.now
held k =
    let l = k.args.stored.now in
    profile l (slice_octets l k.shared_slice_known-1.given) (sym k.holds_qos.ensures ∙ not-false _ k.if-not-holds_qos.false-raw)

pub returns-then-code-ne-QOS : goal.returns-then-code-ne-QOS
returns-then-code-ne-QOS c = profile_other _ _ _ _ c.if-code-ne-QOS.true _

pub returns-then-not-holds_qos : goal.returns-then-not-holds_qos
returns-then-not-holds_qos c = profile_none _ _ _ _ (sym c.holds_qos.ensures ∙ not-true _ c.if-not-holds_qos.true-raw) _

pub put_profile-requires : goal.put_profile-requires
put_profile-requires c = let p = held c in (p.some, omega (arith, p.few, c.requires))

pub returns : goal.returns
returns c = let l = c.args.stored.now in
    profile_put _ _ l _ (slice_octets l c.shared_slice_known-1.given) c.if-code-ne-QOS.false (sym c.holds_qos.ensures ∙ not-false _ c.if-not-holds_qos.false-raw) _ c.requires c.put_profile.ensures
