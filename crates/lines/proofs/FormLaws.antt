-- Laws of numbers that are read field by field, and of the forms.
-- Assumes nothing.
--
--   going n us fs                         the answer where the numbers us are read and the fields fs are left
--   going_none, -more, -bad, -short, -over, _all
--   machine_by, cost_by; part-*, fit-*    the forms, by the answers on their names and numbers; part_cases, fit_cases: the sets of these
--   form_none                             a word alone
use mathlib.Core.Path.{◌≡◌, refl}
use mathlib.Core.Bool.{Bool, true, false, cond, ◌&&◌, and-false}
use mathlib.Core.List.{List, [], ◌∷◌, ◌++◌, append_assoc, append-nil}
use Prim.Native.Nat.{ℕ, ◌+◌, ◌≤◌, ◌<◌}
use native.Mathlib.Nat.{zero-add}
use native.Mathlib.Omega.{arith}
use borrow.Author.Tests.{eq-eqb, ne_eqb}
use lib.Dec.{eqb}
use lib.ListN.{length, length-append}
use Rattle.std.proofs.Common.{Option, Some, None}
use Rattle.std.specs.Option.{option_map}
use Rattle.task.specs.declared.Name.{Name}
use Rattle.lines.specs.declared.Line.{Line}
use Rattle.lines.specs.declared.forms.Word.{Word}
use Rattle.lines.specs.Lines.{every, is_number, value_of, name_of, is_name, name_in}
use Rattle.lines.specs.Forms.{machine_of, costs_of, times_of, numbered, values, number_in, numbers_in, machine_form, cost_form, part_form, fit_form, form_of}
use Rattle.lines.proofs.LineLaws.{kept-some, kept-none}

pub going : ℕ → List ℕ → List (List ℕ) → Option (List ℕ)
going n us fs = cond (eqb (length us + length fs) n && every is_number fs) (Some (us ++ values fs)) None

pub going_none : (n : ℕ) (fs : List (List ℕ)) → numbers_in n fs ≡ going n [] fs
unfolding numbers_in going
going_none n fs = rw (zero-add (length fs))

module _ (n : ℕ) (us : List ℕ) where
  pub going-bad : (f : List ℕ) (fs : List (List ℕ)) → number_in f ≡ None → going n us (f ∷ fs) ≡ None
  unfolding going number_in
  going-bad f fs none = rw (kept-none (is_number f) (value_of f) none, and-false)

  pub going-more : (f : List ℕ) (fs : List (List ℕ)) (v : ℕ) → number_in f ≡ Some v → going n us (f ∷ fs) ≡ going n (us ++ (v ∷ [])) fs
  unfolding going number_in
  going-more f fs v some =
      let good = kept-some (is_number f) (value_of f) v some in
      let long : length (us ++ (v ∷ [])) + length fs ≡ length us + length (f ∷ fs) = rw length-append (omega arith) in
      rw (long, append_assoc us (v ∷ []) (values fs), good.0, good.1)

  pub going-short : length us < n → going n us [] ≡ None
  unfolding going
  going-short short = rw (ne_eqb (length us + 0) n (λ e. omega arith))

  pub going-over : (f : List ℕ) (fs : List (List ℕ)) → n ≤ length us → going n us (f ∷ fs) ≡ None
  unfolding going
  going-over f fs full = rw (ne_eqb (length us + length (f ∷ fs)) n (λ e. omega arith))

  pub going_all : n ≡ length us → going n us [] ≡ Some us
  unfolding going
  going_all full = rw (eq-eqb (length us + 0) n (omega arith), append-nil us)

-- ---- the forms

module _ (fs : List (List ℕ)) where
  pub machine_by : machine_form fs ≡ option_map machine_of (numbers_in 2 fs)
  unfolding machine_form numbers_in
  machine_by = by (numbered 2 fs)
    where
      by : (t : Bool) → cond t (Some (machine_of (values fs))) None ≡ option_map machine_of (cond t (Some (values fs)) None)
      by true = refl
      by false = refl

  pub cost_by : cost_form fs ≡ option_map costs_of (numbers_in 9 fs)
  unfolding cost_form numbers_in
  cost_by = by (numbered 9 fs)
    where
      by : (t : Bool) → cond t (Some (costs_of (values fs))) None ≡ option_map costs_of (cond t (Some (values fs)) None)
      by true = refl
      by false = refl

module _ (f : List ℕ) where
  pub part-unnamed : (fs : List (List ℕ)) → name_in f ≡ None → part_form (f ∷ fs) ≡ None
  unfolding part_form
  part-unnamed fs none = rw (kept-none (is_name f) (name_of f) none)

  pub part-alone : part_form (f ∷ []) ≡ None
  unfolding part_form
  part-alone = rw and-false

  pub part-unnumbered : (fs : List (List ℕ)) → numbers_in 6 fs ≡ None → part_form (f ∷ fs) ≡ None
  unfolding part_form numbers_in
  part-unnumbered fs none = rw (kept-none (numbered 6 fs) (values fs) none, and-false)

  pub part-some : (fs : List (List ℕ)) (n : Name) (vs : List ℕ) → name_in f ≡ Some n → numbers_in 6 fs ≡ Some vs
      → part_form (f ∷ fs) ≡ Some (record { name = n; times = times_of vs })
  unfolding part_form numbers_in
  part-some fs n vs named numbers =
      let good = kept-some (is_name f) (name_of f) n named in
      let six = kept-some (numbered 6 fs) (values fs) vs numbers in
      rw (good.0, six.0, good.1, six.1)

  pub fit-alone : fit_form (f ∷ []) ≡ None
  unfolding fit_form
  fit-alone = refl

  pub fit-many : (g h : List ℕ) (fs : List (List ℕ)) → fit_form (f ∷ g ∷ h ∷ fs) ≡ None
  unfolding fit_form
  fit-many g h fs = refl

  pub fit-unnamed : (g : List ℕ) → name_in f ≡ None → fit_form (f ∷ g ∷ []) ≡ None
  unfolding fit_form
  fit-unnamed g none = rw (kept-none (is_name f) (name_of f) none)

  pub fit-other : (g : List ℕ) → name_in g ≡ None → fit_form (f ∷ g ∷ []) ≡ None
  unfolding fit_form
  fit-other g none = rw (kept-none (is_name g) (name_of g) none, and-false)

  pub fit-some : (g : List ℕ) (n p : Name) → name_in f ≡ Some n → name_in g ≡ Some p → fit_form (f ∷ g ∷ []) ≡ Some (Line.Fit n p)
  unfolding fit_form
  fit-some g n p named part =
      let good = kept-some (is_name f) (name_of f) n named in
      let fine = kept-some (is_name g) (name_of g) p part in
      rw (good.0, fine.0, good.1, fine.1)

pub ruleset part_cases = (part-unnamed, part-alone, part-unnumbered, part-some)

pub ruleset fit_cases = (fit-alone, fit-many, fit-unnamed, fit-other, fit-some)

-- ---- a line

-- a word alone has no form
pub form_none : (w : Option Word) → form_of w [] ≡ None
unfolding machine_form cost_form part_form fit_form
form_none (Some Word.Machine) = refl
form_none (Some Word.Cost) = refl
form_none (Some Word.Part) = refl
form_none (Some Word.Fit) = refl
form_none None = refl
