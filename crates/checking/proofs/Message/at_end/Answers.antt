-- `checking::Message::at_end` meets its contract. Assumes nothing.
use mathlib.Core.Path.{refl}
use native.Mathlib.Omega.{arith}
use borrow.Author.Rules.{rules}
use Rattle.meaning.specs.Jobs.{comes}
use Rattle.checking.specs.Lists.{end_by, lacks_by, wants_by}
use Rattle.checking.proofs.Laying.{chosen_then, chosen_both, chosen_low}
use Rattle.checking.proofs.Message.at_end.Goals as goal

pub put_each-requires-clause-room : goal.put_each-requires-clause-room
put_each-requires-clause-room c =
    let p = c.requires in
    let six = chosen_low _ _ _ _ _ (c.put_each-second.ensures (lacks_by c.args.self.now.codes c.args.seen.now c.args.place) (λ k h b s. search rules)) in
    (omega (arith, p.0, six, c.put-first.ensures.few), p.1, omega arith)

pub returns : goal.returns
unfolding end_by
returns c =
    chosen_then _ _ _ _ _ _ _ _ _ refl c.put-first.ensures
    (chosen_both _ _ _ _ _ _ _ _ (c.put_each-second.ensures (lacks_by c.args.self.now.codes c.args.seen.now c.args.place) (λ k h b s. search rules)) (c.put_each.ensures (wants_by (comes c.args.self.now.kind c.args.self.now.flags) c.args.self.now.codes c.args.seen.now c.args.place) (λ k h b s. search rules)))
