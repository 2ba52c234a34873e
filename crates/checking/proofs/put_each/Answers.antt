-- `checking::put_each` meets its contract: the loop has laid what the numbers before the index give. Assumes nothing.
use mathlib.Core.Path.{refl, sym, ap, ◌∙◌}
use native.Mathlib.Omega.{arith}
use Rattle.meaning.specs.Listing.{Candidate}
use Rattle.checking.proofs.Laying.{laying_none, laying_more, laid_kept}
use Rattle.checking.proofs.put_each.Goals as goal

pub loop-number-init : goal.loop-number-init
loop-number-init g c = record { few = omega arith; kept = refl; laying = λ by t. laying_none _ _ _ _ }

pub loop-number-preserved : goal.loop-number-preserved
loop-number-preserved g c =
    let i = c.loop-number.invariant in
    let p = c.put-written.ensures in
    record {
      few = omega (arith, i.few, p.few);
      kept = laid_kept _ _ _ _ _ p.lays ∙ i.kept;
      laying = λ by t.
          let q = t c.loop-number.number-index (omega arith) c.stands.result c.stands.ensures in
          let key = ap (λ (x : Candidate). x.key) q in
          let stands = ap (λ (x : Candidate). x.stands) q in
          laying_more _ _ _ _ _ _ _ (i.laying by t) (omega arith) c.stands.result _ _ (sym stands) (rw key p);
    }
