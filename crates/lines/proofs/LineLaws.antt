-- Laws of runs, and of bytes that are not equal.
-- Assumes nothing.
--
--   run-place, run-found, run-none      where a run ends, by the place of its byte
--   until-found, until-none             what stands on either side of that place, or all where it is nowhere
--   until-others                        what stands beyond has the runs beyond the first
--   kept-some, kept-none                what is kept where a test holds, and else nothing
--   rest-none, rest-some                what stands beyond a run, if anything does
--   other-length, other-byte            bytes that are not equal; word_cases: the set of these
use mathlib.Core.Path.{◌≡◌, refl, sym, ap, ◌∙◌}
use mathlib.Core.Bool.{Bool, true, false, cond, and-false}
use mathlib.Core.List.{List, [], ◌∷◌}
use Prim.Native.Nat.{ℕ, zero, suc, ◌+◌, ◌≤◌, ◌<◌}
use native.Mathlib.Numerals.{add-one}
use native.Mathlib.Omega.{arith}
use borrow.Author.Tests.{ltb-true, ltb-false, ne_eqb}
use lib.Dec.{eqb, ltb}
use lib.ListN.{length, take, drop, get_or}
use lib.Seq.{take_all}
use Rattle.std.proofs.Common.{Option, Some, None, is_some, Bor}
use Rattle.std.specs.Option.{option_map}
use Rattle.std.specs.List.{position, position_or_len}
use Rattle.std.proofs.lemmas.List.Recursion.{is_position_or_len}
use Rattle.task.specs.Names.{same_bytes}
use Rattle.lines.specs.Lines.{up_to, beyond, rest_of, until_of, until_shown, runs_in}

-- ---- where a run ends

pub run-place : (b : ℕ) (s : List ℕ) → length (up_to b s) ≡ position_or_len (λ x. eqb x b) s
unfolding up_to
run-place b s = is_position_or_len (λ l. length (up_to b l)) (λ x. eqb x b) refl step s
  where
    step : (x : ℕ) (xs : List ℕ) → length (up_to b (x ∷ xs)) ≡ cond (eqb x b) 0 (1 + length (up_to b xs))
    step x xs = by-test (eqb x b)
      where
        by-test : (t : Bool) → length (cond t [] (x ∷ up_to b xs)) ≡ cond t 0 (1 + length (up_to b xs))
        by-test true = refl
        by-test false = omega arith

-- a run and its length, by the byte that stands there
abbrev Run : ℕ → List ℕ → Type 0
Run b s = (take (length (up_to b s)) s ≡ up_to b s) × (length (up_to b s) ≤ length s)

run_of : (b : ℕ) (s : List ℕ) → Run b s
unfolding up_to
run_of b [] = (refl, omega arith)
run_of b (x ∷ s) = by-test (eqb x b) (run_of b s)
  where
    by-test : (t : Bool) → Run b s → (take (length (cond t [] (x ∷ up_to b s))) (x ∷ s) ≡ cond t [] (x ∷ up_to b s))
        × (length (cond t [] (x ∷ up_to b s)) ≤ length (x ∷ s))
    by-test true r = (refl, omega arith)
    by-test false r = (ap (λ (l : List ℕ). x ∷ l) r.0, omega (arith, r.1))

beyond-none : (b : ℕ) (s : List ℕ) → length s ≤ length (up_to b s) → beyond b s ≡ []
unfolding beyond up_to
beyond-none b [] whole = refl
beyond-none b (x ∷ s) whole = by-test (eqb x b) (λ h. beyond-none b s h) whole
  where
    by-test : (t : Bool) → (length s ≤ length (up_to b s) → beyond b s ≡ []) → length (x ∷ s) ≤ length (cond t [] (x ∷ up_to b s))
        → cond t (up_to b s ∷ beyond b s) (beyond b s) ≡ []
    by-test true h w = absurd (omega arith)
    by-test false h w = h (omega arith)

beyond-some : (b : ℕ) (s : List ℕ) → length (up_to b s) < length s
    → beyond b s ≡ up_to b (drop (length (up_to b s) + 1) s) ∷ beyond b (drop (length (up_to b s) + 1) s)
unfolding beyond up_to
beyond-some b [] short = absurd (omega arith)
beyond-some b (x ∷ s) short = by-test (eqb x b) (λ h. beyond-some b s h) short
  where
    by-test : (t : Bool)
        → (length (up_to b s) < length s → beyond b s ≡ up_to b (drop (length (up_to b s) + 1) s) ∷ beyond b (drop (length (up_to b s) + 1) s))
        → length (cond t [] (x ∷ up_to b s)) < length (x ∷ s)
        → cond t (up_to b s ∷ beyond b s) (beyond b s)
        ≡ up_to b (drop (length (cond t [] (x ∷ up_to b s)) + 1) (x ∷ s)) ∷ beyond b (drop (length (cond t [] (x ∷ up_to b s)) + 1) (x ∷ s))
    by-test true h w = refl
    by-test false h w = rw (add-one (suc (length (up_to b s)))) (rw (add-one (length (up_to b s))) at (h (omega arith)))

-- what stands beyond the byte, by the same place
rest-short : (b : ℕ) (s : List ℕ) → length (up_to b s) < length s → rest_of b s ≡ Some (drop (length (up_to b s) + 1) s)
unfolding rest_of up_to
rest-short b [] short = absurd (omega arith)
rest-short b (x ∷ s) short = by-test (eqb x b) (λ h. rest-short b s h) short
  where
    by-test : (t : Bool) → (length (up_to b s) < length s → rest_of b s ≡ Some (drop (length (up_to b s) + 1) s))
        → length (cond t [] (x ∷ up_to b s)) < length (x ∷ s)
        → cond t (Some s) (rest_of b s) ≡ Some (drop (length (cond t [] (x ∷ up_to b s)) + 1) (x ∷ s))
    by-test true h w = refl
    by-test false h w = rw (add-one (suc (length (up_to b s)))) (rw (add-one (length (up_to b s))) at (h (omega arith)))

rest-whole : (b : ℕ) (s : List ℕ) → length s ≤ length (up_to b s) → rest_of b s ≡ None
unfolding rest_of up_to
rest-whole b [] whole = refl
rest-whole b (x ∷ s) whole = by-test (eqb x b) (λ h. rest-whole b s h) whole
  where
    by-test : (t : Bool) → (length s ≤ length (up_to b s) → rest_of b s ≡ None) → length (x ∷ s) ≤ length (cond t [] (x ∷ up_to b s))
        → cond t (Some s) (rest_of b s) ≡ None
    by-test true h w = absurd (omega arith)
    by-test false h w = h (omega arith)

-- the runs of what stands beyond the byte
runs_of : ℕ → Option (List ℕ) → List (List ℕ)
runs_of b None = []
runs_of b (Some r) = up_to b r ∷ beyond b r

beyond-rest : (b : ℕ) (s : List ℕ) → beyond b s ≡ runs_of b (rest_of b s)
unfolding beyond rest_of runs_of
beyond-rest b [] = refl
beyond-rest b (x ∷ s) = by-test (eqb x b) (beyond-rest b s)
  where
    by-test : (t : Bool) → beyond b s ≡ runs_of b (rest_of b s)
        → cond t (up_to b s ∷ beyond b s) (beyond b s) ≡ runs_of b (cond t (Some s) (rest_of b s))
    by-test true h = refl
    by-test false h = h

-- so an answer that meets `exact` of `until` meets `others`
pub until-others : (b : ℕ) (s : List ℕ) (a : Bor (List ℕ) × Option (Bor (List ℕ))) → until_shown a ≡ until_of b s → beyond b s ≡ runs_in b a.1
unfolding runs_of
until-others b s a e = beyond-rest b s ∙ sym (ap (λ (z : List ℕ × Option (List ℕ)). runs_of b z.1) e) ∙ same a.1
  where
    same : (r : Option (Bor (List ℕ))) → runs_of b (option_map (λ x. x.now) r) ≡ runs_in b r
    same None = refl
    same (Some r) = refl

-- ---- what is kept where a test holds, and else nothing

module _ {A : Type 0} where
  pub kept-some : (t : Bool) (x y : A) → cond t (Some x) None ≡ Some y → (t ≡ true) × (x ≡ y)
  kept-some true x y e = (refl, cc)
  kept-some false x y e = absurd (let z : ◌≡◌ {A = ℕ} 0 1 = cc in omega arith)

  pub kept-none : (t : Bool) (x : A) → cond t (Some x) None ≡ None → t ≡ false
  kept-none true x e = absurd (let z : ◌≡◌ {A = ℕ} 0 1 = cc in omega arith)
  kept-none false x e = refl

-- ---- what stands beyond a run, if anything does

pub rest-none : (r : Option (Bor (List ℕ))) → is_some r ≡ false → r ≡ None
rest-none None e = refl
rest-none (Some x) e = absurd (let z : ◌≡◌ {A = ℕ} 0 1 = cc in omega arith)

pub rest-some : (b : ℕ) (r : Option (Bor (List ℕ))) → is_some r ≡ true → (f : List ℕ) × (fs : List (List ℕ)) × (runs_in b r ≡ f ∷ fs)
rest-some b None e = absurd (let z : ◌≡◌ {A = ℕ} 0 1 = cc in omega arith)
rest-some b (Some x) e = (up_to b x.now, beyond b x.now, refl)

-- ---- a run that is looked for by its byte's place

module _ (b : ℕ) (s : List ℕ) (r : Option ℕ) (place : r ≡ position (λ x. eqb x b) s) where
  placed : r ≡ cond (ltb (length (up_to b s)) (length s)) (Some (length (up_to b s))) None
  placed = rw run-place place

  ends : (e : ℕ) → r ≡ Some e → (e ≡ length (up_to b s)) × (e < length s)
  ends e found =
      let z = kept-some (ltb (length (up_to b s)) (length s)) (length (up_to b s)) e (sym placed ∙ found) in
      (sym z.1, omega (arith, ltb-true (length (up_to b s)) (length s) z.0, z.1))

  pub run-found : (e : ℕ) → r ≡ Some e → (take e s ≡ up_to b s) × (e < length s)
      × (beyond b s ≡ up_to b (drop (e + 1) s) ∷ beyond b (drop (e + 1) s))
  run-found e found =
      let z = ends e found in
      (rw z.0 (run_of b s).0, z.1, rw z.0 (beyond-some b s (omega (arith, z.0, z.1))))

  pub run-none : r ≡ None → (s ≡ up_to b s) × (beyond b s ≡ [])
  run-none none =
      let whole : length s ≤ length (up_to b s) =
      ltb-false (length (up_to b s)) (length s) (kept-none (ltb (length (up_to b s)) (length s)) (length (up_to b s)) (sym placed ∙ none)) in
      (sym (take_all (length (up_to b s)) s whole) ∙ (run_of b s).0, beyond-none b s whole)

  pub until-found : (e : ℕ) → r ≡ Some e → (run rest : List ℕ) → run ≡ take e s → rest ≡ drop (e + 1) s → (run, Some rest) ≡ until_of b s
  until-found e found run rest ahead behind =
      let z = ends e found in
      rw (ahead, behind, (run-found e found).0, z.0, rest-short b s (omega (arith, z.0, z.1)))

  pub until-none : r ≡ None → (run : List ℕ) → run ≡ s → (run, None) ≡ until_of b s
  until-none none run all =
      let whole : length s ≤ length (up_to b s) = omega (arith, ap length (run-none none).0) in
      rw (all, ← (run-none none).0, rest-whole b s whole)

-- ---- bytes that are not equal

pub other-length : (f w : List ℕ) → (length f ≡ length w → ⊥) → same_bytes f w ≡ false
other-length [] [] h = absurd (h refl)
other-length [] (y ∷ w) h = refl
other-length (x ∷ f) [] h = refl
other-length (x ∷ f) (y ∷ w) h = rw (other-length f w (λ e. h (ap suc e)), and-false)

pub other-byte : (f w : List ℕ) (i : ℕ) → i < length f → i < length w → (get_or f i 0 ≡ get_or w i 0 → ⊥) → same_bytes f w ≡ false
other-byte [] w i low room h = absurd (omega arith)
other-byte (x ∷ f) [] i low room h = absurd (omega arith)
other-byte (x ∷ f) (y ∷ w) zero low room h = rw (ne_eqb x y h)
other-byte (x ∷ f) (y ∷ w) (suc i) low room h = rw (other-byte f w i (omega arith) (omega arith) h, and-false)

pub ruleset word_cases = (other-length, other-byte)
