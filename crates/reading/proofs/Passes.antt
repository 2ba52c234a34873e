-- The pass over an area's attributes: what its loop has counted and laid. Assumes nothing.
use mathlib.Core.Path.{◌≡◌, refl, sym, ap, subst, ◌∙◌}
use mathlib.Core.List.{List, [], ◌++◌, append_assoc, append-nil}
use mathlib.Core.Bool.{Bool, true, false, cond}
use Prim.Native.Nat.{ℕ, ◌+◌, ◌*◌, ◌<◌, ◌≤◌}
use native.Mathlib.Omega.{arith}
use lib.Dec.{eqb}
use lib.ListN.{length, drop, length-append, length-drop}
use lib.Seq.{length-take-le}
use Rattle.meaning.specs.Versions.{current}
use Rattle.meaning.specs.Octets.{Octets, number_of}
use Rattle.meaning.specs.Framing.{Walk, end, broken, walk, walk_at, attributes}
use Rattle.meaning.specs.Refusals.{fault}
use Rattle.meaning.specs.Sheet.{form, stored, item, items_of}
use Rattle.meaning.proofs.Forms.{stored_le}
use Rattle.meaning.proofs.Bounds.{count_fits}
use Rattle.octets.specs.Parts.{part_of, laid_at, Begun}
use Rattle.octets.proofs.Overs.{laid_keeps}
use Rattle.octets.proofs.Begun.{begun_none, begun_laid, begun_as, begun_on, begun_first}
use Rattle.area.specs.declared.Refusal.{Refusal}
use Rattle.area.specs.declared.Part.{Part}
use Rattle.area.proofs.Steps.{AttributeAt}
use Rattle.area.proofs.Passed as framing
use Rattle.shape.specs.declared.Item.{Item}
use Rattle.shape.specs.declared.Value.TheVariants.{Number, Address, Digits, Plain}
use Rattle.shape.specs.Items.{value_by, item_at, item_for}
use Rattle.shape.proofs.Formed.{formed_as}
use Rattle.shape.proofs.Items.{item_there}
use Rattle.shape.proofs.Stored.{item_as_meant}
use Rattle.reading.proofs.Laying.{cut_of, cut_part}
use Rattle.std.specs.Prelude.{Ok, Err}
use Rattle.reading.specs.Items.{names_of, item_in, Within, LaidCounted, area_items, PassSays}

-- The loop stands at a place and has gone over the attributes before it, whose items are so many octets and stand at the start of the
-- buffer, which was d.
pub record Passing (l d out : List ℕ) (place count written : ℕ) : Type 0 where
  pub passed : framing.Passed l count place
  pub gone : List ℕ
  pub whole : area_items l ≡ gone ++ items_of current (attributes (walk_at l place))
  pub long : length gone ≡ written
  pub few : written ≤ 2 * place
  pub held : Begun 0 gone d out

pub passing_none : (l d : List ℕ) → Passing l d d 0 0 0
unfolding area_items walk
passing_none l d =
    record {
      passed = framing.passed_none l;
      gone = [];
      whole = refl;
      long = refl;
      few = omega arith;
      held = begun_none 0 d;
    }

-- the item that the meaning has for an attribute is the one that is made of it
item_meant : (l : List ℕ) (n : ℕ) (p : Part) → Octets l → item_in l (item_at l n p) ≡ item current n (part_of l p.start p.len)
unfolding item_in names_of
item_meant l n p o = item_as_meant l n p o

-- plain octets of an item are the part that it was made of
plain_part : (f : ℕ) (v s : List ℕ) (p q : Part) → value_by f v s p ≡ Plain q → p ≡ q
unfolding value_by
plain_part f v s p q e = go (eqb f 2) (eqb f 3) (eqb f 4) (eqb f 7) e
  where
    go : (a b c d : Bool)
        → cond a (Number (number_of v)) (cond b (Address (number_of v)) (cond c Digits (cond d (Number (number_of s)) (Plain p)))) ≡ Plain q
        → p ≡ q
    go true b c d h = absurd (let z : ◌≡◌ {A = ℕ} 0 1 = cc in omega arith)
    go false true c d h = absurd (let z : ◌≡◌ {A = ℕ} 0 1 = cc in omega arith)
    go false false true d h = absurd (let z : ◌≡◌ {A = ℕ} 0 1 = cc in omega arith)
    go false false false true h = absurd (let z : ◌≡◌ {A = ℕ} 0 1 = cc in omega arith)
    go false false false false h = cc

-- the value of an attribute
abbrev value_in : List ℕ → Part → List ℕ
value_in l p = part_of l p.start p.len

module _ (l : List ℕ) (place n : ℕ) (p : Part) (behind : ℕ) (g : AttributeAt l place n p behind) (o : Octets l) where
  value_long : length (value_in l p) ≡ p.len
  unfolding part_of
  value_long = length-take-le p.len (drop p.start l) (omega (arith, length-drop p.start l, g.ends, g.inside))

  walks_on : items_of current (attributes (walk_at l place)) ≡ item current n (value_in l p) ++ items_of current (attributes (walk_at l behind))
  unfolding items_of attributes part_of
  walks_on = ap (λ (w : Walk). items_of current (attributes w)) g.walks

  item_size : length (item current n (value_in l p)) ≡ 4 + length (stored current n (value_in l p))
  unfolding item
  item_size = omega arith

  item_bound : length (item current n (value_in l p)) + 2 * place ≤ 2 * behind
  item_bound = omega (arith, item_size, stored_le current n (value_in l p), value_long, g.onwards, g.starts, g.ends)

  -- its number is carried
  pub number_low : n < 512
  number_low = (g.carried o).low

  -- and its names have room
  pub names_fit : (d out : List ℕ) (count written : ℕ) → Passing l d out place count written → 2 * length l + 16 ≤ length d
      → written + 2 ≤ length out
  names_fit d out count written k room = omega (arith, k.few, k.held.kept, g.onwards, g.inside)

  -- the item of the attribute
  module _ (i : Item) (made : i ≡ item_for n (cut_of l p) p) where
    item_made : i ≡ item_at l n p
    item_made = made ∙ item_there l n p (cut_of l p) (cut_part l p)

    -- its count is an octet
    pub item_count : i.count < 256
    unfolding item_at item_for part_of
    item_count = subst (λ (j : Item). j.count < 256) (sym item_made) (count_fits current _ (g.carried o))

    -- its plain octets lie in the area
    pub item_within : Within l i
    unfolding item_at item_for
    item_within =
        let v : List ℕ = value_in l p in
        subst (Within l) (sym item_made)
        (record {
          inside = λ q h. omega (arith, ap (λ (r : Part). r.start + r.len) (plain_part (form current n v) v (stored current n v) p q h), g.ends, g.inside);
          released = λ q h six. omega (arith, ap (λ (r : Part). r.len) (plain_part (form current n v) v (stored current n v) p q h), value_long, (formed_as n v 6 six).long);
        })

    octets_are : item_in l i ≡ item current n (value_in l p)
    octets_are = ap (item_in l) item_made ∙ item_meant l n p o

    module _ (d out : List ℕ) (count written : ℕ) (k : Passing l d out place count written) where
      item_inside : written + length (item_in l i) ≤ 2 * behind
      item_inside = omega (arith, ap length octets_are, item_bound, k.few)

      -- its names were laid behind the items before it
      module _ (room : 2 * length l + 16 ≤ length d) (named : List ℕ) (first : named ≡ laid_at written (names_of n) out) where
        -- there is room for the item and eight octets more
        pub item_fits : written + length (item_in l i) + 16 ≤ length named
        item_fits = laid_keeps written (names_of n) out named _ first (omega (arith, item_inside, k.held.kept, g.inside))

        names_begun : Begun written (names_of i.number) out named
        unfolding names_of item_at item_for
        names_begun = begun_as written (names_of n) _ out named (ap (λ (j : Item). names_of j.number) item_made) (begun_laid written (names_of n) out named (names_fit d out count written k room) first)

        -- it was put there
        module _ (size : ℕ) (after : List ℕ)
            (says : (b : List ℕ) → Begun written (names_of i.number) b named → LaidCounted written (item_in l i) b size after) where
          put : LaidCounted written (item_in l i) out size after
          put = says out names_begun

          -- the sum does not wrap
          pub passing_sum : written + size ≤ 2 * length l
          passing_sum = omega (arith, put.says, item_inside, g.inside)

          -- one attribute more
          pub passing_more : Passing l d after behind (count + 1) (written + size)
          passing_more =
              record {
                passed = framing.passed_more l count place k.passed n p behind g;
                gone = k.gone ++ item_in l i;
                whole =
                    k.whole ∙ ap (λ (s : List ℕ). k.gone ++ s) (walks_on ∙ ap (λ (s : List ℕ). s ++ items_of current (attributes (walk_at l behind))) (sym octets_are))
                    ∙ sym (append_assoc k.gone (item_in l i) (items_of current (attributes (walk_at l behind))));
                long = omega (arith, length-append k.gone (item_in l i), k.long, put.says);
                few = omega (arith, put.says, item_inside);
                held = begun_on 0 written k.gone (item_in l i) d out after (omega (arith, k.long)) k.held put.holds;
              }

-- The loop is left.
module _ (l d out : List ℕ) (place count written : ℕ) (k : Passing l d out place count written) where
  -- none is left
  pub passing_done : walk_at l place ≡ end → PassSays l (Ok (record { count = count; written = written })) out
  unfolding PassSays items_of attributes fault
  passing_done h =
      let all : area_items l ≡ k.gone = k.whole ∙ ap (λ (w : Walk). k.gone ++ items_of current (attributes w)) h ∙ append-nil k.gone in
      record {
        sound = k.passed.same_fault ∙ ap fault h;
        counts = omega (arith, k.passed.counted, ap (λ (w : Walk). length (attributes w)) h);
        long = sym (ap length all ∙ k.long);
        few = omega (arith, k.few, k.passed.inside);
        holds = begun_first written k.gone d out k.long k.held ∙ sym all;
      }

  -- a refusal
  pub passing_broken : (refused : Refusal) → walk_at l place ≡ broken refused.number refused.second → PassSays l (Err refused) out
  unfolding PassSays fault
  passing_broken refused h = k.passed.same_fault ∙ ap fault h
