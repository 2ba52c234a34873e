-- `checking::along` meets its contract. Assumes nothing.
use Rattle.std.proofs.lemmas.Result.{err_from_is_err_and}
use Prim.Native.Nat.{ℕ, ◌<◌}
use mathlib.Core.Bool.{◌&&◌}
use mathlib.Core.List.{List}
use mathlib.Core.Path.{◌≡◌, refl, ◌∙◌}
use native.Mathlib.Omega.{arith}
use Rattle.octets.proofs.Parts.{slice_octets}
use Rattle.area.specs.declared.Part.{Part}
use Rattle.area.proofs.Steps.{AttributeAt, step_attribute, step_refused, step_ended}
use Rattle.area.proofs.Carrying.{step_carried}
use Rattle.meaning.specs.Octets.{Octets, is_in}
use Rattle.meaning.specs.Breaches.{once_only}
use Rattle.checking.proofs.Walking.{looking_unseen, looking_start, looking_none, looking_on, looking_found, looking_more}
use Rattle.checking.proofs.Passes.{passing_none, passing_more, passing_done, passing_broken}
use Rattle.checking.proofs.Message.along.Goals as goal
use Rattle.checking.proofs.Message.along.Goals.{then-seen-n+else-search-test, then-seen-n+then-search-test+then-earlier-number, else-seen-n}

-- the number of an attribute that stands in octets is carried
low : (l : List ℕ) (place n : ℕ) (p : Part) (behind : ℕ) → Octets l → AttributeAt l place n p behind → n < 512
low l place n p behind o s = (s.carried o).low

pub loop-attribute-init : goal.loop-attribute-init
loop-attribute-init c = passing_none _ _ _ _ c.requires.1

pub bounds-seen-n : goal.bounds-seen-n
bounds-seen-n c = low _ _ _ _ _ (slice_octets _ c.type_inv.area) (step_attribute _ _ _ c.step_at.ensures _ c.in_ok-attribute.was _ c.in-Some.is)

pub search-init : goal.search-init
search-init c =
    let o = c.loop-attribute.invariant in
    (looking_start _ _ o.numbers _ _ c.search_end-end.ensures o.reaches, refl)

pub search-smaller : goal.search-smaller
search-smaller c =
    let h = c.search-test.true in
    omega (arith, h, looking_on _ _ _ _ _ c.search.invariant.0 h _ c.carried_at-earlier.ensures)

pub search-preserved : goal.search-preserved
search-preserved c =
    let i = c.search.invariant in
    (looking_more _ _ _ _ _ i.0 c.search-test.true _ c.carried_at-earlier.ensures c.if-earlier-number.false, i.1)

pub bounds-seen-n-in-Some : goal.bounds-seen-n-in-Some
bounds-seen-n-in-Some c =
    low _ _ _ _ _ (slice_octets _ c.type_inv.area) (step_attribute _ _ _ c.step_at.ensures _ c.in_ok-attribute.was _ c.in-Some.is)

pub slice_bounds-v-count : goal.slice_bounds-v-count
slice_bounds-v-count c = omega (arith, (step_attribute _ _ _ c.step_at.ensures _ c.in_ok-attribute.was _ c.in-Some.is).ends)

pub slice_bounds-v-start : goal.slice_bounds-v-start
slice_bounds-v-start c = omega (arith, (step_attribute _ _ _ c.step_at.ensures _ c.in_ok-attribute.was _ c.in-Some.is).ends)

pub slice_bounds-v-end : goal.slice_bounds-v-end
slice_bounds-v-end c = (step_attribute _ _ _ c.step_at.ensures _ c.in_ok-attribute.was _ c.in-Some.is).inside

pub at_attribute-written-requires : goal.at_attribute-written-requires
at_attribute-written-requires c =
    let p = c.loop-attribute.invariant in
    let s = step_attribute _ _ _ c.step_at.ensures _ c.in_ok-attribute.was _ c.in-Some.is in
    (omega (arith, p.few, s.onwards, s.inside, c.requires.0), omega (arith, p.inside, c.requires.0), low _ _ _ _ _ (slice_octets _ c.type_inv.area) s)

pub loop-attribute-smaller : goal.loop-attribute-smaller
loop-attribute-smaller c =
    let s = step_attribute _ _ _ c.step_at.ensures _ c.in_ok-attribute.was _ c.in-Some.is in
    omega (arith, s.onwards, s.inside)

pub loop-attribute-preserved : goal.loop-attribute-preserved
loop-attribute-preserved c =
    let o = c.loop-attribute.invariant in
    let octets = slice_octets _ c.type_inv.area in
    let stands = step_attribute _ _ _ c.step_at.ensures _ c.in_ok-attribute.was _ c.in-Some.is in
    let told = step_carried _ _ octets _ c.step_at.ensures _ c.in_ok-attribute.was _ c.in-Some.is in
    let number = low _ _ _ _ _ octets stands in
    -- After the search, or without one, the flag says whether rule 3 is broken.
    let flag : c.if-seen-n.again ≡ (once_only c.in-Some.attribute.number && is_in c.in-Some.attribute.number o.numbers) =
    elim c.if-seen-n.branch [
      | then-seen-n+else-search-test w ↦ w.again-is ∙ w.search.invariant.1 ∙ looking_none _ _ _ _ _ w.search.invariant.0 o.numbers o.reaches w.search-test.false
      | then-seen-n+then-search-test+then-earlier-number w ↦ w.again-is ∙ looking_found _ _ _ _ _ w.search.invariant.0 w.search-test.true _ w.carried_at-earlier.ensures o.numbers o.reaches w.if-earlier-number.true
      | else-seen-n w ↦ w.again-is ∙ looking_unseen _ _ o.numbers (o.notes.says _ number) w.if-seen-n.false
    ] in
    passing_more _ _ _ _ _ _ _ o _ _ _ told stands number _ _ _ _ flag refl c.at_attribute-written.ensures

pub returns-in_err-attribute : goal.returns-in_err-attribute
returns-in_err-attribute c =
    let p = err_from_is_err_and c.from_residual.result c.from_residual.ensures.1 in
    rw (p.1, p.2)
    (passing_broken _ _ _ _ _ _ _ c.loop-attribute.invariant _ (step_refused _ _ _ c.step_at.ensures _ c.in_err-attribute.was))

pub returns : goal.returns
returns c =
    passing_done _ _ _ _ _ _ _ c.loop-attribute.invariant
    (step_ended _ _ _ c.step_at.ensures _ c.in_ok-attribute.was c.in_default.is)
