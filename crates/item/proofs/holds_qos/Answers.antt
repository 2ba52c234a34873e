-- Four octets, twelve, or another number. Assumes nothing.
use Rattle.octets.proofs.Parts.{slice_octets}
use Rattle.item.proofs.Held.{qos_long, qos_other}
use Rattle.item.proofs.holds_qos.Goals as goal

pub returns-then-stored-eq12 : goal.returns-then-stored-eq12
returns-then-stored-eq12 c = qos_long c.args.stored.now (slice_octets c.args.stored.now c.shared_slice_known-then-stored-eq12-1.given) c.if-stored-eq12.true

pub returns : goal.returns
returns c = qos_other _ c.if-stored-eq4.false c.if-stored-eq12.false
