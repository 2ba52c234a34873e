-- Rising lists: two of the same numbers are one list; and what is chosen of ordered candidates is the list of what they stand for.
-- Assumes nothing.
use mathlib.Core.Path.{◌≡◌, refl, sym, ap, ap₂}
use mathlib.Core.Logic.{◌⊎◌, inl, inr, ⊎_elim}
use mathlib.Core.Bool.{Bool, true, false}
use mathlib.Core.List.{List, [], ◌∷◌, ◌++◌, map}
use Prim.Native.Nat.{ℕ, suc, ◌≤◌, ◌<◌}
use native.Mathlib.Omega.{arith}
use lib.Dec.{T}
use Rattle.meaning.specs.Breaches.{Among, RisingFrom, Lists}
use Rattle.meaning.specs.Listing.{Candidate, put, chosen}

-- ---- One of a list

pub among_append : {A : Type 0} (x : A) (l m : List A) → Among x (l ++ m) → Among x l ⊎ Among x m
among_append x [] m p = inr p
among_append x (y ∷ l) m (inl p) = inl (inl p)
among_append x (y ∷ l) m (inr p) = ⊎_elim (λ q. inl (inr q)) (λ q. inr q) (among_append x l m p)

pub among_left : {A : Type 0} (x : A) (l m : List A) → Among x l → Among x (l ++ m)
among_left x [] m p = absurd p
among_left x (y ∷ l) m (inl p) = inl p
among_left x (y ∷ l) m (inr p) = inr (among_left x l m p)

pub among_right : {A : Type 0} (x : A) (l m : List A) → Among x m → Among x (l ++ m)
among_right x [] m p = p
among_right x (y ∷ l) m p = inr (among_right x l m p)

pub among_map : {A B : Type 0} (f : A → B) (x : A) (l : List A) → Among x l → Among (f x) (map f l)
among_map f x [] p = p
among_map f x (y ∷ l) (inl p) = inl (ap f p)
among_map f x (y ∷ l) (inr p) = inr (among_map f x l p)

-- ---- The list of a set is one

among_from : (b : ℕ) (l : List ℕ) → RisingFrom b l → (e : ℕ) → Among e l → b ≤ e
among_from b [] r e m = absurd m
among_from b (x ∷ l) r e (inl p) = omega arith
among_from b (x ∷ l) r e (inr m) = let h = among_from (suc x) l r.1 e m in omega arith

same_rising : (b : ℕ) (l m : List ℕ) → RisingFrom b l → RisingFrom b m → ((e : ℕ) → Among e l → Among e m)
    → ((e : ℕ) → Among e m → Among e l) → l ≡ m
same_rising b [] [] r s f g = refl
same_rising b [] (y ∷ m) r s f g = absurd (g y (inl refl))
same_rising b (x ∷ l) [] r s f g = absurd (f x (inl refl))
same_rising b (x ∷ l) (y ∷ m) r s f g = ap₂ ◌∷◌ first (same_rising (suc x) l m r.1 (rw first s.1) onward back)
  where
    above_x : (e : ℕ) → Among e l → x < e
    above_x e p = among_from (suc x) l r.1 e p

    above_y : (e : ℕ) → Among e m → y < e
    above_y e p = among_from (suc y) m s.1 e p

    first : x ≡ y
    first =
        ⊎_elim (λ p. p) (λ p. ⊎_elim (λ q. sym q) (λ q. absurd (omega (arith, above_y x p, above_x y q))) (g y (inl refl)))
        (f x (inl refl))

    onward : (e : ℕ) → Among e l → Among e m
    onward e p = ⊎_elim (λ (q : e ≡ y). absurd (omega (arith, first, above_x e p))) (λ q. q) (f e (inr p))

    back : (e : ℕ) → Among e m → Among e l
    back e p = ⊎_elim (λ (q : e ≡ x). absurd (omega (arith, first, above_y e p))) (λ q. q) (g e (inr p))

pub one_list : (P : ℕ → Type 0) (l m : List ℕ) → Lists l P → Lists m P → l ≡ m
one_list P l m a b =
    same_rising 0 l m a.rising b.rising (λ e p. (b.exact e).1 ((a.exact e).0 p)) (λ e p. (a.exact e).1 ((b.exact e).0 p))

-- ---- Candidates in order

-- the candidates rise from a number up to another, not included
abbrev pub Ordered : (from : ℕ) → List Candidate → (to : ℕ) → Type 0
Ordered b [] t = b ≤ t
Ordered b (c ∷ cs) t = (b ≤ c.key) × Ordered (suc c.key) cs t

pub ordered_lower : (a b t : ℕ) (cs : List Candidate) → a ≤ b → Ordered b cs t → Ordered a cs t
ordered_lower a b t [] h o = omega arith
ordered_lower a b t (c ∷ cs) h o = (omega arith, o.1)

pub ordered_append : (b m t : ℕ) (cs ds : List Candidate) → Ordered b cs m → Ordered m ds t → Ordered b (cs ++ ds) t
ordered_append b m t [] ds o p = ordered_lower b m t ds o p
ordered_append b m t (c ∷ cs) ds o p = (o.0, ordered_append (suc c.key) m t cs ds o.1 p)

ordered_spans : (b t : ℕ) (cs : List Candidate) → Ordered b cs t → b ≤ t
ordered_spans b t [] o = o
ordered_spans b t (c ∷ cs) o = let h = ordered_spans (suc c.key) t cs o.1 in omega arith

pub key_between : (b t : ℕ) (cs : List Candidate) → Ordered b cs t → (c : Candidate) → Among c cs → (b ≤ c.key) × (c.key < t)
key_between b t [] o c m = absurd m
key_between b t (d ∷ cs) o c (inl p) =
    let h = ordered_spans (suc d.key) t cs o.1 in let q : c.key ≡ d.key = ap (λ (x : Candidate). x.key) p in omega arith
key_between b t (d ∷ cs) o c (inr m) = let h = key_between (suc d.key) t cs o.1 c m in omega arith

-- ---- What is chosen

rising_lower : (a b : ℕ) (l : List ℕ) → a ≤ b → RisingFrom b l → RisingFrom a l
rising_lower a b [] h r = tt
rising_lower a b (x ∷ l) h r = (omega arith, r.1)

put_rising : (test : Bool) (b x : ℕ) (l : List ℕ) → b ≤ x → RisingFrom (suc x) l → RisingFrom b (put test x l)
put_rising true b x l h r = (h, r)
put_rising false b x l h r = rising_lower b (suc x) l (omega arith) r

chosen_rising : (b t : ℕ) (cs : List Candidate) → Ordered b cs t → RisingFrom b (chosen cs)
unfolding chosen
chosen_rising b t [] o = tt
chosen_rising b t (c ∷ cs) o =
    put_rising c.stands b c.key (chosen cs) o.0 (chosen_rising (suc c.key) t cs o.1)

-- e is the key of a candidate whose test passes
pub record Chosen (e : ℕ) (cs : List Candidate) : Type 0 where
  pub which : Candidate
  pub among : Among which cs
  pub passes : T which.stands
  pub named : e ≡ which.key

pub chosen_left : (e : ℕ) (cs ds : List Candidate) → Chosen e cs → Chosen e (cs ++ ds)
chosen_left e cs ds r =
    record { which = r.which; among = among_left r.which cs ds r.among; passes = r.passes; named = r.named }

pub chosen_right : (e : ℕ) (cs ds : List Candidate) → Chosen e ds → Chosen e (cs ++ ds)
chosen_right e cs ds r =
    record { which = r.which; among = among_right r.which cs ds r.among; passes = r.passes; named = r.named }

put_among : (test : Bool) (x e : ℕ) (l : List ℕ) → Among e (put test x l) → (T test × (e ≡ x)) ⊎ Among e l
put_among true x e l (inl p) = inl (tt, p)
put_among true x e l (inr m) = inr m
put_among false x e l m = inr m

among_put : (test : Bool) (x e : ℕ) (l : List ℕ) → (T test × (e ≡ x)) ⊎ Among e l → Among e (put test x l)
among_put true x e l (inl p) = inl p.1
among_put true x e l (inr m) = inr m
among_put false x e l (inl p) = absurd p.0
among_put false x e l (inr m) = m

among_chosen : (e : ℕ) (cs : List Candidate) → Among e (chosen cs) → Chosen e cs
unfolding chosen
among_chosen e [] m = absurd m
among_chosen e (c ∷ cs) m =
    ⊎_elim (λ p. record { which = c; among = inl refl; passes = p.0; named = p.1 })
    (λ m. let r = among_chosen e cs m in record { which = r.which; among = inr r.among; passes = r.passes; named = r.named })
    (put_among c.stands c.key e (chosen cs) m)

chosen_among : (e : ℕ) (cs : List Candidate) (c : Candidate) → Among c cs → T c.stands → e ≡ c.key → Among e (chosen cs)
unfolding chosen
chosen_among e [] c m t p = absurd m
chosen_among e (d ∷ cs) c (inl q) t p = among_put d.stands d.key e (chosen cs) (inl (rw q at t, rw q at p))
chosen_among e (d ∷ cs) c (inr m) t p = among_put d.stands d.key e (chosen cs) (inr (chosen_among e cs c m t p))

-- each candidate whose test passes has the key of a P
abbrev pub Each : (P : ℕ → Type 0) → List Candidate → Type 0
Each P [] = Unit {0}
Each P (c ∷ cs) = (T c.stands → P c.key) × Each P cs

pub each_append : (P : ℕ → Type 0) (cs ds : List Candidate) → Each P cs → Each P ds → Each P (cs ++ ds)
each_append P [] ds f g = g
each_append P (c ∷ cs) ds f g = (f.0, each_append P cs ds f.1 g)

pub each_map : (P : ℕ → Type 0) (f : ℕ → Candidate) (l : List ℕ) → ((n : ℕ) → T (f n).stands → P (f n).key) → Each P (map f l)
each_map P f [] g = tt
each_map P f (n ∷ l) g = (g n, each_map P f l g)

pub each_chosen : (P : ℕ → Type 0) (cs : List Candidate) → Each P cs → (e : ℕ) → Chosen e cs → P e
each_chosen P cs f e r = go cs f r.among
  where
    go : (cs : List Candidate) → Each P cs → Among r.which cs → P e
    go [] f m = absurd m
    go (c ∷ cs) f (inl p) = rw (r.named, p) (f.0 (rw p at r.passes))
    go (c ∷ cs) f (inr m) = go cs f.1 m

pub chosen_lists : (P : ℕ → Type 0) (b t : ℕ) (cs : List Candidate) → Ordered b cs t → ((e : ℕ) → Chosen e cs → P e)
    → ((e : ℕ) → P e → Chosen e cs) → Lists (chosen cs) P
chosen_lists P b t cs o sound whole =
    record {
      rising = rising_lower 0 b (chosen cs) (omega arith) (chosen_rising b t cs o);
      exact =
          λ e. (
            λ m. sound e (among_chosen e cs m),
            λ p. let r = whole e p in chosen_among e cs r.which r.among r.passes r.named,
          );
    }
