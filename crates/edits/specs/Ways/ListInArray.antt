-- A list of tasks as the struct holds it: the first `count` of 64, whatever stands past them.
--
--   Lists q ts         q lists ts and no more
--   removed i ts       ts without the one at place i, from 0
use Rattle.std.specs.Prelude.{◌≡◌, List, ◌++◌, ℕ, suc, take, drop, length}
use Rattle.task.specs.declared.Task.{Task}
use Rattle.task.specs.declared.Tasks.{Tasks}
use Rattle.task.specs.Tasks.{list_of}

pub record Lists (q : Tasks) (ts : List Task) : Type 0 where
  pub count : q.count ≡ length ts
  pub items : list_of q ≡ ts

abbrev pub removed : ℕ → List Task → List Task
removed i ts = take i ts ++ drop (suc i) ts
