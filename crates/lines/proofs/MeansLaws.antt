-- A line that is read by its form says what its bytes say.
-- Assumes nothing.
--
--   said l        what a line says, as it is read
--   says-line     that is what its bytes say
use mathlib.Core.Path.{◌≡◌, refl, sym}
use mathlib.Core.Bool.{Bool, true, false, cond, ◌&&◌, and-false}
use mathlib.Core.List.{List, [], ◌∷◌}
use Prim.Native.Nat.{ℕ}
use native.Mathlib.Omega.{arith}
use borrow.Author.Tests.{ne_eqb}
use lib.Dec.{eqb, eqb-suc-suc}
use lib.ListN.{length}
use Rattle.task.specs.Names.{same_bytes}
use Rattle.task.proofs.NameLaws.{same-bytes-exact}
use Rattle.std.proofs.Common.{Option, Some, None}
use Rattle.std.specs.Option.{option_map}
use Rattle.lines.specs.declared.Line.{Line}
use Rattle.lines.specs.Lines.{bytes_of, tab, up_to, beyond, every, is_number, is_name}
use Rattle.lines.specs.Forms.{machine_of, costs_of, numbered, values}
use Rattle.lines.specs.Forms.{machine_form, cost_form, part_form, fit_form, word_of, form_of, line_of}
use Rattle.lines.specs.Says.{Saying, machine, cost, part, fit, nothing, has, says_in, says_of}

abbrev pub said : Option Line → Saying
said (Some (Line.Machine m)) = machine m
said (Some (Line.Cost c)) = cost c
said (Some (Line.Part p)) = part p
said (Some (Line.Fit t p)) = fit t p
said None = nothing

-- ---- forms that are kept, or not

kept-or-none : {A : Type 0} (make : A → Line) (b : Bool) (x : A) → said (option_map make (cond b (Some x) None)) ≡ cond b (said (Some (make x))) nothing
kept-or-none make true x = refl
kept-or-none make false x = refl

fit-or-none : (b : Bool) (l : Line) → said (cond b (Some l) None) ≡ cond b (said (Some l)) nothing
fit-or-none true l = refl
fit-or-none false l = refl

part-numbers : (f : List ℕ) (fs : List (List ℕ)) → has 1 6 (f ∷ fs) ≡ (is_name f && numbered 6 fs)
part-numbers f fs = rw (eqb-suc-suc (length fs) 6) (by (is_name f))
  where
    by : (b : Bool) → (b && true && eqb (length fs) 6 && every is_number fs) ≡ (b && (eqb (length fs) 6 && every is_number fs))
    by true = refl
    by false = refl

two-names : (b c : Bool) → (b && (c && true) && true && true) ≡ (b && c)
two-names true true = refl
two-names true false = refl
two-names false c = refl

-- ---- each form by its word

module _ (fs : List (List ℕ)) where
  machine-said : says_in (bytes_of "machine") fs ≡ said (option_map Line.Machine (machine_form fs))
  unfolding says_in machine_form
  machine-said = sym (kept-or-none Line.Machine (numbered 2 fs) (machine_of (values fs)))

  cost-said : says_in (bytes_of "cost") fs ≡ said (option_map Line.Cost (cost_form fs))
  unfolding says_in cost_form
  cost-said = sym (kept-or-none Line.Cost (numbered 9 fs) (costs_of (values fs)))

part-said : (fs : List (List ℕ)) → says_in (bytes_of "part") fs ≡ said (option_map Line.Part (part_form fs))
unfolding says_in part_form
part-said [] = refl
part-said (f ∷ fs) = rw (part-numbers f fs) (sym (kept-or-none Line.Part (is_name f && numbered 6 fs) _))

fit-said : (fs : List (List ℕ)) → says_in (bytes_of "fit") fs ≡ said (fit_form fs)
unfolding says_in fit_form
fit-said [] = refl
fit-said (f ∷ []) = rw (and-false)
fit-said (f ∷ g ∷ []) = rw (two-names (is_name f) (is_name g)) (sym (fit-or-none (is_name f && is_name g) _))
fit-said (f ∷ g ∷ h ∷ fs) =
    let many : eqb (length (f ∷ g ∷ h ∷ fs)) 2 ≡ false = ne_eqb (length (f ∷ g ∷ h ∷ fs)) 2 (λ e. omega arith) in
    rw (many, and-false)

-- ---- a line

-- a word that has a form is that form's, byte for byte
in-said : (w : List ℕ) (fs : List (List ℕ)) → says_in w fs ≡ said (form_of (word_of w) fs)
unfolding says_in word_of
in-said w fs =
    by (same_bytes w (bytes_of "machine")) refl (same_bytes w (bytes_of "cost")) refl
    (same_bytes w (bytes_of "part")) refl (same_bytes w (bytes_of "fit")) refl
  where
    at : (v : List ℕ) → same_bytes w v ≡ true → says_in v fs ≡ said (form_of (word_of v) fs) → says_in w fs ≡ said (form_of (word_of w) fs)
    at v same so = rw ((same-bytes-exact w v).0 same) so

    by : (a : Bool) → same_bytes w (bytes_of "machine") ≡ a → (b : Bool) → same_bytes w (bytes_of "cost") ≡ b
        → (c : Bool) → same_bytes w (bytes_of "part") ≡ c → (d : Bool) → same_bytes w (bytes_of "fit") ≡ d
        → says_in w fs ≡ said (form_of (word_of w) fs)
    by true m b c p q d r = at (bytes_of "machine") m (machine-said fs)
    by false m true c p q d r = at (bytes_of "cost") c (cost-said fs)
    by false m false c true p d q = at (bytes_of "part") p (part-said fs)
    by false m false c false p true q = at (bytes_of "fit") q (fit-said fs)
    by false m false c false p false q = rw (m, c, p, q)

pub says-line : (l : List ℕ) → says_of l ≡ said (line_of l)
unfolding says_of line_of
says-line l = in-said (up_to tab l) (beyond tab l)
