-- Laws of a core, and of its pieces one by one.
-- Assumes nothing.
--
--   total-more            what one piece more adds to a figure
--   each-piece, each-told     what holds of all pieces holds of each; and what a walk over all of them tells
--   least-live-none, -bounds, -greatest     t0 is the least of what the pieces have
--   tight-of-end, tight-found     the tight window of the last piece
--   piece_there, piece_past, lay_there, lay_past     a charged piece read and laid out at a place, and past the last
--   lay-records-none, lay-records-more, lay-records-in     the records of a run laid out
--   sum_mono              no sum falls as t grows
--   asked-mono, tight-window-asked    what the code climbs by, and the tight window as it climbs to it
use Rattle.std.specs.Prelude.{Option}
use Rattle.std.specs.Bool.{MatchBool}
use Rattle.std.specs.List.{AllWithin, HoldsAt}
use mathlib.Core.Bool.{Bool, true, false}
use mathlib.Core.Path.{◌≡◌, refl, sym, ap, ◌∙◌}
use mathlib.Core.List.{List, [], ◌∷◌, ◌++◌, map}
use Prim.Native.Nat.{ℕ, zero, suc, ◌+◌, ◌-◌, ◌≤◌, ◌<◌}
use native.Mathlib.Nat.{not-suc-le-zero, mul-le-mul_right}
use native.Mathlib.Numerals.{unary_clauses}
use native.Mathlib.Omega.{arith}
use borrow.Author.Tests.{le-leb, lt-leb}
use lib.ListN.{length, length-map, take, drop, set, get_or}
use lib.Seq.{length-take-le, take_all, take-append_seam}
use Rattle.std.proofs.lemmas.List.{take_more}
use Rattle.demand.specs.declared.Piece.{Piece}
use Rattle.demand.specs.declared.Costs.{Costs}
use Rattle.demand.specs.declared.Charged.{Charged}
use Rattle.demand.specs.Sizes.{Each, Tells, SizedCosts}
use Rattle.demand.specs.Ways.Ranges.{Countable, charged_within, no_charge}
use Rattle.demand.specs.Charge.{core_of}
use Rattle.demand.proofs.ChargeLaws.{map_snoc, charged-within}
use Rattle.demand.specs.Demand.{total, earliest, least_live}
use Rattle.verdicts.specs.declared.Sum.{Sum}
use Rattle.verdicts.specs.declared.Sum.TheVariants.{Load, Interrupts, Jobs, Busy}
use Rattle.demand.specs.Busy.{least_holding, later, tight_sum, tight_window}
use Rattle.demand.specs.Answer.{tight_of_last}
use Rattle.verdicts.specs.Cores.{laid_piece, lay_piece, lay_records}
use Rattle.verdicts.specs.Laid.{term}
use Rattle.demand.proofs.Sums.{total_mono, total-snoc, each_at}
use Rattle.demand.proofs.DemandLaws.{jobs-due-mono, load-mono, interrupts-mono, busy-load-mono}

-- ---- the sums

pub term-mono : (s : Sum) (q : Charged) {t u : ℕ} → t ≤ u → term s t q ≤ term s u q
term-mono Load q h = load-mono q h
term-mono Interrupts q h = interrupts-mono q h
term-mono Jobs q h = mul-le-mul_right q.charge (jobs-due-mono q h)
term-mono Busy q h = busy-load-mono q h

pub sum_mono : (qs : List Charged) (s : Sum) {t u : ℕ} → t ≤ u → total (term s t) qs ≤ total (term s u) qs
sum_mono qs s {t} {u} h = total_mono (term s t) (term s u) (λ q. term-mono s q h) qs

-- what the code climbs by: a base and one of the sums
abbrev pub asked : Sum → ℕ → List Charged → ℕ → ℕ
asked s base qs t = base + total (term s t) qs

pub asked-mono : (s : Sum) (base : ℕ) (qs : List Charged) (m n : ℕ) → m ≤ n → asked s base qs m ≤ asked s base qs n
asked-mono s base qs m n h = omega (arith, sum_mono qs s h)

pub tight-window-asked : (b : ℕ) (qs : List Charged) (q : Charged) (top : ℕ)
    → tight_window b qs q top ≡ later q.jitter (least_holding (asked Interrupts (b + q.charge) qs) (top - q.jitter))
unfolding tight_window tight_sum
tight-window-asked b qs q top = refl

-- ---- one piece more

module _ (qs : List Charged) (i : ℕ) (d : Charged) (here : i < length qs) where
  pub total-more : (f : Charged → ℕ) → total f (take (i + 1) qs) ≡ total f (take i qs) + f (get_or qs i d)
  total-more f = rw (take_more qs i d here) (total-snoc f (take i qs) (get_or qs i d))

  pub each-piece : (P : Charged → Type 0) → Each P qs → P (get_or qs i d)
  each-piece P ok = each_at P (length qs) qs (rw (take_all (length qs) qs (omega arith)) ok) i d here here

-- what a walk over all pieces tells
each-from : (P : Charged → Type 0) (qs : List Charged) → AllWithin P qs 0 (length qs) → Each P qs
each-from P [] all = tt
each-from P (q ∷ qs) all = (all 0 q (omega arith) (omega arith), each-from P qs (λ k d low high. all (suc k) d (omega arith) (omega arith)))

pub each-told : (P : Charged → Type 0) (qs : List Charged) (r : Bool)
    → MatchBool r (AllWithin P qs 0 (length qs)) ((k : ℕ) × (k < length qs) × HoldsAt (λ q. P q → ⊥) qs k) → Tells (Each P qs) r
each-told P qs true all = each-from P qs all
each-told P qs false bad = λ ok. bad.2 no_charge (each-piece qs bad.0 no_charge bad.1 P ok)

-- ---- the first and the last

earliest-bounds : (w : ℕ) (qs : List Charged) (i : ℕ) (d : Charged) → i < length qs → earliest w qs ≤ (get_or qs i d).window - (get_or qs i d).jitter
earliest-bounds w [] i d h = absurd (omega arith)
earliest-bounds w (q ∷ qs) zero d h = omega arith
earliest-bounds w (q ∷ qs) (suc i) d h = omega (arith, earliest-bounds w qs i d (omega arith))

earliest-greatest : (w : ℕ) (qs : List Charged) (d : Charged) (m : ℕ) → m ≤ w
    → ((i : ℕ) → i < length qs → m ≤ (get_or qs i d).window - (get_or qs i d).jitter) → m ≤ earliest w qs
earliest-greatest w [] d m low all = low
earliest-greatest w (q ∷ qs) d m low all = omega (arith, all 0 (omega arith), earliest-greatest w qs d m low (λ i h. all (suc i) (omega arith)))

pub least-live-none : (qs : List Charged) → length qs ≡ 0 → least_live qs ≡ 0
unfolding least_live
least-live-none [] none = refl
least-live-none (q ∷ qs) none = absurd (omega arith)

-- the least live length is one of the pieces', and none is below it
pub least-live-bounds : (qs : List Charged) (i : ℕ) (d : Charged) → i < length qs → least_live qs ≤ (get_or qs i d).window - (get_or qs i d).jitter
unfolding least_live
least-live-bounds [] i d h = absurd (omega arith)
least-live-bounds (q ∷ qs) i d h = earliest-bounds (q.window - q.jitter) (q ∷ qs) i d h

pub least-live-greatest : (qs : List Charged) (d : Charged) (m : ℕ) → (length qs ≡ 0 → m ≡ 0)
    → ((i : ℕ) → i < length qs → m ≤ (get_or qs i d).window - (get_or qs i d).jitter) → m ≤ least_live qs
unfolding least_live
least-live-greatest [] d m none all = omega (arith, none refl)
least-live-greatest (q ∷ qs) d m none all = earliest-greatest (q.window - q.jitter) (q ∷ qs) d m (all 0 (omega arith)) all

pub tight-of-end : (b : ℕ) (all qs : List Charged) (d : Charged) → 0 < length qs
    → tight_of_last b all qs ≡ tight_window b all (get_or qs (length qs - 1) d) (get_or qs (length qs - 1) d).window
tight-of-end b all [] d some = absurd (omega arith)
tight-of-end b all (q ∷ []) d some = refl
tight-of-end b all (q ∷ p ∷ qs) d some = simp unary_clauses (simp unary_clauses at (tight-of-end b all (p ∷ qs) d (omega arith)))

-- the tight window by what a climb finds
pub tight-found : (b : ℕ) (qs : List Charged) (d : Charged) → 0 < length qs → (q : Charged) → q ≡ get_or qs (length qs - 1) d
    → (top : ℕ) → top ≡ q.window - q.jitter → (r : Option ℕ) → r ≡ least_holding (asked Interrupts (b + q.charge) qs) top
    → later q.jitter r ≡ tight_of_last b qs qs
tight-found b qs d some q last top room r found =
    let climbed : later q.jitter r ≡ tight_window b qs q q.window = rw (found, room) (sym (tight-window-asked b qs q q.window)) in
    let of-last : tight_window b qs q q.window ≡ tight_of_last b qs qs = rw last (sym (tight-of-end b qs qs d some)) in
    climbed ∙ of-last

-- ---- records laid out

-- ---- a piece at a place

pub piece_there : (qs : List Charged) (i : ℕ) (d : Charged) → i < length qs → get_or qs i d ≡ laid_piece qs i
unfolding laid_piece
piece_there qs i d low = there qs i low
  where
    there : (qs : List Charged) (i : ℕ) → i < length qs → get_or qs i d ≡ get_or qs i no_charge
    there [] i low = absurd (omega arith)
    there (q ∷ qs) zero low = refl
    there (q ∷ qs) (suc i) low = there qs i (omega arith)

pub piece_past : (qs : List Charged) (i : ℕ) → length qs ≤ i → no_charge ≡ laid_piece qs i
unfolding laid_piece
piece_past [] i high = refl
piece_past (q ∷ qs) zero high = absurd (omega arith)
piece_past (q ∷ qs) (suc i) high = piece_past qs i (omega arith)

pub lay_there : (qs : List Charged) (i : ℕ) (q : Charged) → i < length qs → set qs i q ≡ lay_piece qs i q
unfolding lay_piece
lay_there qs i q low = simp (lt-leb (length qs) i low)

pub lay_past : (qs : List Charged) (i : ℕ) (q : Charged) → length qs ≤ i → qs ≡ lay_piece qs i q
unfolding lay_piece
lay_past qs i q high = simp (le-leb (length qs) i high)

pub lay-records-none : (qs : List Charged) (c : Costs) → qs ≡ lay_records qs c []
unfolding lay_records
lay-records-none qs c = refl

charged-all : (c : Costs) → SizedCosts c → (ps : List Piece) → Each Countable ps → map (charged_within c) ps ≡ core_of c ps
unfolding core_of
charged-all c costs [] ok = refl
charged-all c costs (p ∷ ps) ok = rw (charged-within c p costs ok.0, charged-all c costs ps ok.1)

-- one record more
lay-snoc : (qs ps : List Charged) (p : Charged) → length ps < length qs
    → set (ps ++ drop (length ps) qs) (length ps) p ≡ (ps ++ (p ∷ [])) ++ drop (length ps + 1) qs
lay-snoc [] ps p room = absurd (not-suc-le-zero room)
lay-snoc (q ∷ qs) [] p room = refl
lay-snoc (q ∷ qs) (o ∷ ps) p room = simp unary_clauses (ap (λ (l : List Charged). o ∷ l) (simp unary_clauses at (lay-snoc qs ps p (omega arith))))

pub lay-records-more : (qs : List Charged) (c : Costs) (ps : List Piece) (i : ℕ) (d : Piece) → i < length ps → i < length qs
    → lay_records qs c (take (i + 1) ps) ≡ set (lay_records qs c (take i ps)) i (charged_within c (get_or ps i d))
unfolding lay_records
lay-records-more qs c ps i d h room =
    let n : length (take i ps) ≡ i = length-take-le i ps (omega arith) in
    let long : length (map (charged_within c) (take i ps)) ≡ i = length-map (take i ps) (charged_within c) ∙ n in
    let next : length (take (i + 1) ps) ≡ i + 1 = length-take-le (i + 1) ps (omega arith) in
    let p = charged_within c (get_or ps i d) in
    let front : map (charged_within c) (take (i + 1) ps) ≡ map (charged_within c) (take i ps) ++ (p ∷ []) =
    rw (take_more ps i d h) (map_snoc (charged_within c) (take i ps) (get_or ps i d)) in
    let put = lay-snoc qs (map (charged_within c) (take i ps)) p (omega (arith, long)) in
    rw (n, next, front) (rw long at (sym put))

pub lay-records-in : (qs : List Charged) (c : Costs) → SizedCosts c → (ps : List Piece) → Each Countable ps → (n : ℕ) → n ≡ length ps
    → take n (lay_records qs c ps) ≡ core_of c ps
unfolding lay_records
lay-records-in qs c costs ps ok n is =
    let long : n ≡ length (map (charged_within c) ps) = is ∙ sym (length-map ps (charged_within c)) in
    rw long (take-append_seam (map (charged_within c) ps) (drop (length ps) qs) ∙ charged-all c costs ps ok)
