-- Sheets read by the definitions, as one table: document 01's, the one that names `drv-a2` where only `drv-a` is listed, the empty one, a cut
-- one, and the order of refusals.
-- Assumes nothing.
use mathlib.Core.Path.{◌≡◌, refl}
use mathlib.Core.List.{List, [], ◌∷◌, map}
use Prim.Native.String.{String}
use Rattle.demand.specs.Sizes.{sized, sized_costs}
use Rattle.task.specs.declared.Task.{Task}
use Rattle.task.specs.Names.{name_byte, formed, same_name}
use Rattle.task.specs.Tasks.{whole_piece, sized_machine}
use Rattle.lines.specs.Lines.{bytes_of, up_to, beyond, is_number, name_of, is_name}
use Rattle.demand.specs.Lists.{padded}
use Rattle.demand.specs.Charge.{no_costs}
use Rattle.lines.specs.Forms.{machine_form, cost_form, part_form, fit_form, word_of, line_of}
use Rattle.sheet.specs.Sheet.{Outcome, refused, whole, among_fits, machine_fault, cost_fault, part_fault, fit_fault, line_fault, after, read_from, outcome_of}

-- a sheet, and what is to be made of it
record Row : Type 0 where
  text : String
  outcome : Outcome

-- a name with the times of document 01's part
timed : String → Task
timed name = record { name = name_of (bytes_of name); times = record { worst = 6; deadline = 10; period = 10; jitter = 0; preempt = 0; migrate = 1 } }

rows : List Row
rows =
    record {
      text = "machine\t2\t1\ncost\t0\t0\t0\t0\t0\t0\t0\t0\t0\npart\tdrv-a\t6\t10\t10\t0\t0\t1\nfit\tpress\tdrv-a\nfit\tfeed\tdrv-a\nfit\tweld\tdrv-a\n";
      outcome =
          whole (record {
            stage = among_fits;
            machine = record { cores = 2; grain = 1 };
            costs = no_costs;
            parts = record { name = name_of (bytes_of "drv-a"); times = (timed "drv-a").times } ∷ [];
            tasks = timed "press" ∷ timed "feed" ∷ timed "weld" ∷ [];
          });
    }
    ∷ record { text = "machine\t2\t1\ncost\t0\t0\t0\t0\t0\t0\t0\t0\t0\npart\tdrv-a\t6\t10\t10\t0\t0\t1\nfit\tpress\tdrv-a2\n"; outcome = refused 5 4 }
    ∷ record { text = ""; outcome = refused 8 1 }
    ∷ record { text = "machine\t2\t1\n"; outcome = refused 8 2 }
    ∷ record { text = "machine\t2\t1\ncost\t0\t0\t0\t0\t0\t0\t0\t0\t0"; outcome = refused 8 2 }
    ∷ record { text = "machine\t17\t1\ncost\t0\n"; outcome = refused 1 1 }
    ∷ record { text = "machine\t17\t01\n"; outcome = refused 8 1 }
    ∷ record { text = "machine\t2\t1\ncost\t0\t0\t0\t0\t0\t0\t0\t0\t0\npart\ta\t1\t1\t1\t0\t0\t0\npart\ta\t2\t1\t1\t0\t0\t0\n"; outcome = refused 3 4 }
    ∷ record { text = "machine\t2\t1\ncost\t0\t0\t0\t0\t0\t0\t0\t0\t0\npart\ta\t1\t1\t1\t0\t0\t0\nfit\tx\ta\nfit\tx\tb\n"; outcome = refused 4 5 }
    ∷ []

read : Row → Outcome
read r = outcome_of (bytes_of r.text)

all-rows : map read rows ≡ map (λ (r : Row). r.outcome) rows
unfolding read rows timed outcome_of read_from line_fault machine_fault cost_fault part_fault fit_fault after line_of word_of machine_form cost_form
    part_form fit_form up_to beyond is_number is_name name_of padded formed name_byte same_name sized_machine sized_costs sized whole_piece
all-rows = refl
