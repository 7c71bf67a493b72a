-- `numbers::number_of` meets its contract: in each arm the answer is known, and so is what it is told as.
use native.Mathlib.Omega.{arith}
use borrow.Author.Rules.{rules}
use Rattle.spardimple.specs.Numbers.{number}
use Rattle.spardimple.proofs.numbers.number_of.Goals as goal

pub numbered-requires-in-Overloaded : goal.numbered-requires-in-Overloaded
numbered-requires-in-Overloaded c =
    let pre = c.requires in
    (search rules, rw (c.in-Ok.is, c.in-Overloaded.is) at pre)

pub returns-in-Passes : goal.returns-in-Passes
unfolding number
returns-in-Passes c = rw (c.in-Ok.is, c.in-Passes.is) c.numbered.ensures

pub returns-in-Overloaded : goal.returns-in-Overloaded
unfolding number
returns-in-Overloaded c = rw (c.in-Ok.is, c.in-Overloaded.is) c.numbered-in-Overloaded.ensures

pub returns-in-Undecided : goal.returns-in-Undecided
unfolding number
returns-in-Undecided c = rw (c.in-Ok.is, c.in-Undecided.is) c.numbered-in-Undecided.ensures

pub returns-in-Err : goal.returns-in-Err
unfolding number
returns-in-Err c = rw c.in-Err.is (omega (arith, c.refusal_number.ensures))
