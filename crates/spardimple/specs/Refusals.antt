-- The refusals of lent bytes and of a sheet with its buffer, as tables: document 01, "Verdict on a core" and "Refusal numbers".
-- `proofs/RefusalLaws.antt` has that `verdict_number` and `listing_number` answer by them.
--
--   lent_table rs cs          "A length that isn't a multiple of .. 28 bytes, or costs that aren't .. 36 bytes, is 8, checked first"; then the records' rules
--   why_records_table rs cs room      the same, then 10 for the listing that says why (document 02, E1)
--   why_core_table sheet core room    the sheet's own rules, then 1 where the machine has no such core, then 10
--   plan_rules sheet          a sheet's rules before 10; numbered_from m rules: the same rules, with m added to their numbers
--   diff_table sheet sheet' room     both sheets' own rules and walks, the second's numbers with 1000 added, then 10 (document 02, E3)
--   Answered t text a        what a function that writes a text answers by the table t: what can come at all, each refusal exactly where the table gives it, and the
--                            text's length exactly where no rule is broken
--   Leaves t text h          what it leaves in the buffer: what it held, where it refuses; else the text at its front, and the bytes beyond it as they were
--   sheet_table sheet room    "9 first, then the first bad line from the top .. Then 7, then 10", with the length needed
use Rattle.std.specs.Prelude.{◌≡◌, ◌⊎◌, ◌↔◌, List, [], ◌∷◌, ◌++◌, ℕ, ◌+◌, ◌*◌, ◌^◌, ◌≤◌, ◌<◌, ◌%◌, length, drop}
use Rattle.demand.specs.Tables.{Rule, ◌if◌carrying◌, Not, Gives, Kept}
use Rattle.demand.specs.Refusals.{record_table}
use Rattle.plan.specs.Refusals.{walk_table}
use Rattle.sheet.specs.Refusals.{read_table}
use Rattle.spardimple.specs.Bytes.{pieces_of, costs_spelt}
use Rattle.spardimple.specs.Sheets.{machine_in, costs_in, tasks_in, text_of}
use Rattle.spardimple.specs.Whys.{why_records_text, why_core_text}
use Rattle.spardimple.specs.Diffs.{diff_text_of, second_from}

unfoldable pub lent_table : (rs cs : List ℕ) → List Rule
lent_table rs cs =
    8 if Not (length rs % 28 ≡ 0) carrying 0
    ∷ 8 if Not (length cs ≡ 36) carrying 0
    ∷ record_table (costs_spelt cs) (length (pieces_of rs)) (pieces_of rs)

-- then 10, where a text is asked for in a buffer of so many bytes
abbrev pub room_table : (text : List ℕ) → (room : ℕ) → List Rule
room_table text room = 10 if (room < length text) carrying length text ∷ []

unfoldable pub why_records_table : (rs cs : List ℕ) → (room : ℕ) → List Rule
why_records_table rs cs room = lent_table rs cs ++ room_table (why_records_text rs cs) room

unfoldable pub why_core_table : (sheet : List ℕ) → (core room : ℕ) → List Rule
why_core_table sheet core room =
    (read_table sheet ++ (1 if Not ((1 ≤ core) × (core ≤ (machine_in sheet).cores)) carrying 0
    ∷ []))
    ++ room_table (why_core_text sheet core) room

-- a sheet's rules before 10
abbrev pub plan_rules : (sheet : List ℕ) → List Rule
plan_rules sheet = read_table sheet ++ walk_table (machine_in sheet) (costs_in sheet) (tasks_in sheet)

-- what a sheet says, and what is listed of it, are looked at only where no rule before is broken
unfoldable pub sheet_table : (sheet : List ℕ) → (room : ℕ) → List Rule
sheet_table sheet room = read_table sheet ++ walk_table (machine_in sheet) (costs_in sheet) (tasks_in sheet) ++ room_table (text_of sheet) room

-- the same rules, with m added to their numbers
abbrev pub numbered_from : ℕ → List Rule → List Rule
numbered_from m [] = []
numbered_from m (r ∷ rules) = (m + r.number) if r.Broken carrying r.carries ∷ numbered_from m rules

unfoldable pub diff_table : (sheet sheet' : List ℕ) → (room : ℕ) → List Rule
diff_table sheet sheet' room = (plan_rules sheet ++ numbered_from second_from (plan_rules sheet')) ++ room_table (diff_text_of sheet sheet') room

-- ---- what a function that writes a text into a lent buffer promises

-- `answer room` is the number that it gives back in a buffer of so many bytes
pub record Answered (table : ℕ → List Rule) (text : List ℕ) (answer : ℕ → ℕ) : Type 0 where
  pub comes : (room : ℕ) → (n : ℕ) × (k : ℕ) × (k < 2 ^ 32) × ((answer room ≡ 2 ^ 32 * 0 + k) ⊎ (answer room ≡ 2 ^ 32 * (100 + n) + k))
  pub refused : (room n k : ℕ) → k < 2 ^ 32 → (answer room ≡ 2 ^ 32 * (100 + n) + k) ↔ Gives (table room) n k
  pub taken : (room k : ℕ) → k < 2 ^ 32 → (answer room ≡ 2 ^ 32 * 0 + k) ↔ (Kept (table room) × (length text ≡ k))

-- `holds old` is what the buffer, which held old, then holds
pub record Leaves (table : ℕ → List Rule) (text : List ℕ) (holds : List ℕ → List ℕ) : Type 0 where
  pub refused : (old : List ℕ) → Not (Kept (table (length old))) → holds old ≡ old
  pub written : (old : List ℕ) → Kept (table (length old)) → holds old ≡ text ++ drop (length text) old
