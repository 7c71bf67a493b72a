-- Laws of the listing that says why.
-- Assumes nothing.
--
--   title-is              what a piece is called by
--   asks-more, more-titled    one line more
--   body-some             the lines of some pieces
--   why-none, why-some    their listing, of none and of some
--   line-is               the line of one of them, as the code comes to it
use mathlib.Core.Path.{◌≡◌, refl, sym, ap, ◌∙◌}
use mathlib.Core.Bool.{Bool, true, false, cond}
use mathlib.Core.List.{List, [], ◌∷◌, ◌++◌, map, append-nil, append_assoc}
use Prim.Native.Nat.{ℕ, ◌+◌, ◌≤◌, ◌<◌}
use native.Mathlib.Nat.{not-suc-le-zero}
use native.Mathlib.Numerals.{add-one}
use native.Mathlib.Omega.{arith}
use lib.ListN.{length, get_or}
use Rattle.std.proofs.lemmas.List.{get_or-map}
use Rattle.demand.specs.declared.Piece.{Piece}
use Rattle.demand.specs.declared.Costs.{Costs}
use Rattle.demand.specs.declared.Charged.{Charged}
use Rattle.demand.specs.declared.Ask.{Ask}
use Rattle.demand.specs.declared.Shown.{Shown}
use Rattle.demand.specs.Answer.{Taken}
use Rattle.demand.specs.Charge.{charged}
use Rattle.demand.specs.declared.Record.{Record}
use Rattle.demand.specs.Records.{outside, piece_in}
use Rattle.demand.specs.Sizes.{Sized, length_most}
use Rattle.demand.specs.Why.{ask, shown_of}
use Rattle.demand.specs.Ways.Ranges.{charged_within}
use Rattle.demand.proofs.ArrayLaws.{firsts-length}
use Rattle.demand.proofs.ChargeLaws.{sized-countable, charged-ranged, charged-within}
use Rattle.demand.proofs.RecordLaws.{pieces-length, pieces-all}
use Rattle.demand.proofs.Sums.{each_at}
use Rattle.verdicts.specs.Asks.{ask_within}
use Rattle.verdicts.proofs.AskLaws.{ask-held, shown-taken}
use Rattle.task.specs.declared.Task.{Task}
use Rattle.task.specs.Tasks.{task_at}
use Rattle.listing.specs.Text.{decimal}
use Rattle.listing.specs.Listing.{spelling}
use Rattle.listing.specs.Why.{Titled, pieces_in, ask_line, ask_lines, why_head, why_foot, why_body, why_text}
use Rattle.listing.specs.Ways.SeatArrays.{no_record, piece_at, title_in, titled_at, titled_in}
use Rattle.listing.proofs.SeatLaws.{titled-pieces, pieces-there}

pub title-is : (b : Bool) (ts : List Task) (ks : List ℕ) (i : ℕ) (name : List ℕ) → name ≡ spelling (task_at ts (get_or ks i 0)).name
    → cond b name (decimal (i + 1)) ≡ title_in b ts ks i
title-is true ts ks i name e = e
title-is false ts ks i name e = refl

module _ (c : Costs) (s : Shown) where
  -- the line of one piece
  abbrev pub line_of : Titled → List ℕ
  line_of l = ask_line l.title l.piece.kind (ask s.verdict s.length (charged c l.piece))

  pub asks-more : (ls : List Titled) (l : Titled) → ask_lines c s (ls ++ (l ∷ [])) ≡ ask_lines c s ls ++ line_of l
  asks-more [] l = append-nil (line_of l)
  asks-more (x ∷ ls) l = ap (λ (t : List ℕ). line_of x ++ t) (asks-more ls l) ∙ sym (append_assoc (line_of x) (ask_lines c s ls) (line_of l))

  -- one piece more of those in the arrays
  pub more-titled : (b : Bool) (ts : List Task) (ks : List ℕ) (a : List Record) (i : ℕ)
      → ask_lines c s (titled_in b ts ks a i ++ (titled_at b ts ks a i ∷ [])) ≡ ask_lines c s (titled_in b ts ks a (i + 1))
  more-titled b ts ks a i = ap (λ (n : ℕ). ask_lines c s (titled_in b ts ks a n)) (sym (add-one i))

  pub body-some : (ls : List Titled) → 1 ≤ length ls → why_body c s ls ≡ ask_lines c s ls ++ why_foot s
  body-some [] some = absurd (not-suc-le-zero some)
  body-some (l ∷ ls) some = refl

-- ---- the pieces in the arrays

-- what is shown of them
module _ (c : Costs) (b : Bool) (ts : List Task) (ks : List ℕ) (a : List Record) (s : Shown) (is : s ≡ shown_of c (map piece_in a)) where
  shown-here : shown_of c (pieces_in (titled_in b ts ks a (length a))) ≡ s
  shown-here = ap (shown_of c) (titled-pieces b ts ks a (length a) ∙ pieces-there a) ∙ sym is

  pub why-none : length a ≡ 0 → why_head s ≡ why_text c (titled_in b ts ks a (length a))
  unfolding why_text
  why-none none = sym (append-nil (why_head s)) ∙ sym (rw (shown-here, none))

  pub why-some : 1 ≤ length a → why_head s ++ (ask_lines c s (titled_in b ts ks a (length a)) ++ why_foot s) ≡ why_text c (titled_in b ts ks a (length a))
  unfolding why_text
  why-some some =
      let long : 1 ≤ length (titled_in b ts ks a (length a)) = omega (arith, firsts-length (titled_at b ts ks a) (length a)) in
      sym (rw shown-here (ap (λ (t : List ℕ). why_head s ++ t) (body-some c s (titled_in b ts ks a (length a)) long)))

-- the line of the piece at place i, as the code comes to it
pub line-is : (c : Costs) (a : List Record) → Taken c (length a) (map piece_in a) → (s : Shown) → s ≡ shown_of c (map piece_in a) → (i : ℕ) → i < length a
    → (p : Piece) → p ≡ piece_at a i → (q : Charged) → q ≡ charged_within c p → (x : Ask) → x ≡ ask_within s.verdict s.length q
    → (b : Bool) (ts : List Task) (ks title : List ℕ) → title ≡ title_in b ts ks i
    → ask_line title p.kind x ≡ line_of c s (titled_at b ts ks a i)
line-is c a taken s is i low p here q q-is x x-is b ts ks title title-is =
    let there : get_or (map piece_in a) i outside ≡ piece_at a i = get_or-map piece_in a i no_record outside low in
    let size : Sized (piece_at a i) =
    rw there at (each_at Sized (length a) (map piece_in a) taken.each i outside low (omega (arith, pieces-length a))) in
    let count = sized-countable (piece_at a i) size in
    let charge : q ≡ charged c (piece_at a i) = q-is ∙ (ap (charged_within c) here ∙ charged-within c (piece_at a i) taken.costs count) in
    let near : s.length ≤ length_most = rw (← is) at (rw (pieces-all a) at (shown-taken c (length a) (map piece_in a) taken)) in
    let asked : x ≡ ask s.verdict s.length (charged c (piece_at a i)) =
    x-is ∙ (ap (ask_within s.verdict s.length) charge
    ∙ ask-held s.verdict s.length (charged c (piece_at a i)) (charged-ranged c taken.costs (piece_at a i) count) near) in
    cc (here, asked, title-is)
