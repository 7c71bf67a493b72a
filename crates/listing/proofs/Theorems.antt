-- The theorems about a listing: document 01, "Sheet". Where a plan is spoken of as one that the walk gave, the machine, costs and first n tasks
-- break no rule, the walk over them is fine, and l is what it placed.
-- Assumes nothing.
--
--   digits-read           a number's digits read back as the number
--   digits-form           and they have the form of a sheet's numbers: 1 to 7 digits, with no leading zero
--   listing-placed        the listing is that of what was placed: the pieces by core, then placement, each with its task's name, its kind and its
--                         figures, the charged time among them; and the first line counts the tasks, of which each is placed (`all_Placed` of crate
--                         `plan`), and the pieces
--   header-counts         which are as many as the entries
--   listing-determines    two walks with equal listings have equal entries: they place the same names alike
use mathlib.Core.Path.{◌≡◌, sym, ◌∙◌}
use mathlib.Core.Bool.{true}
use mathlib.Core.List.{List}
use Prim.Native.Nat.{ℕ, ◌^◌, ◌<◌}
use lib.ListN.{length, take}
use Rattle.demand.specs.declared.Costs.{Costs}
use Rattle.task.specs.declared.Task.{Task}
use Rattle.task.specs.declared.Machine.{Machine}
use Rattle.task.specs.Tasks.{state_fault}
use Rattle.walks.specs.Way.{Placed, fine}
use Rattle.walks.specs.Halves.{Stand}
use Rattle.plan.specs.Walk.{walked}
use Rattle.plan.specs.Plan.{plan_of}
use Rattle.lines.specs.Lines.{is_number, value_of}
use Rattle.listing.specs.Text.{decimal}
use Rattle.listing.specs.Listing.{entry_lines, listing_of}
use Rattle.listing.specs.Placed.{placed_entries, placed_listing}
use Rattle.listing.proofs.DigitLaws.{decimal-value, decimal-number}
use Rattle.listing.proofs.ReadLaws.{lines-alike, head-alike}
use Rattle.listing.proofs.PlacedLaws.{placed-text, listing-is, entries-count}
use Rattle.listing.proofs.PlainLaws.{entries-readable}

-- ---- numbers

pub digits-read : (n : ℕ) → n < 2 ^ 64 → value_of (decimal n) ≡ n
digits-read n fits = decimal-value n fits

pub digits-form : (n : ℕ) → n < 10 ^ 7 → is_number (decimal n) ≡ true
digits-form n fits = decimal-number n fits

-- ---- a plan that the walk gave

module _ (m : Machine) (c : Costs) (n : ℕ) (ts : List Task) (faultless : state_fault m c n ts ≡ 0) (s : Stand) (l : List (Placed ℕ))
    (planned : walked m c (take n ts) ≡ fine s l) where
  pub listing-placed : listing_of (plan_of m c n ts).plan ≡ placed_listing c (take n ts) l
  listing-placed = listing-is m c n ts faultless s l planned

  pub header-counts : length (placed_entries c (take n ts) l) ≡ length l
  header-counts = entries-count m c n ts faultless s l planned

  -- ---- two walks

  pub listing-determines : (m' : Machine) (c' : Costs) (n' : ℕ) (ts' : List Task) → state_fault m' c' n' ts' ≡ 0 → (s' : Stand) (l' : List (Placed ℕ))
      → walked m' c' (take n' ts') ≡ fine s' l' → placed_listing c (take n ts) l ≡ placed_listing c' (take n' ts') l'
      → placed_entries c (take n ts) l ≡ placed_entries c' (take n' ts') l'
  listing-determines m' c' n' ts' faultless' s' l' planned' same =
      let es = placed_entries c (take n ts) l in
      let fs = placed_entries c' (take n' ts') l' in
      lines-alike es fs (entries-readable m c n ts faultless s l planned) (entries-readable m' c' n' ts' faultless' s' l' planned')
      (head-alike (length (take n ts)) (length l) (length (take n' ts')) (length l') (entry_lines es) (entry_lines fs)
      (sym (placed-text c (take n ts) l) ∙ (same ∙ placed-text c' (take n' ts') l'))).2
