-- What check answers: the first clause that fails, in the order of the rules, at the lowest record.
use Rattle.std.specs.Prelude.{ℕ, zero, suc, ◌+◌, Bool, not, ◌&&◌, List, length, Some, None, Ok, Err, Option, Result, ◌==◌, nat_le}
use Rattle.std.specs.Option.{option_map, option_or}
use Rattle.std.specs.Bool.{then_some}
use Rattle.entry.specs.declared.fault.EntryFault.{EntryFault}
use Rattle.links.specs.declared.fault.CheckFault.{CheckFault}
use Rattle.links.specs.declared.fault.Site.{Site}
use Rattle.links.specs.declared.fault.Site.TheVariants.{Whole, Entry, Half, Edge, Face, Unplaced, Edges, EdgeEntry, HalfEntry, FaceEntry}
use Rattle.links.specs.declared.shape.Shape.{Shape}
use Rattle.links.specs.Links.{Links, halves}
use Rattle.links.specs.Tables.{size, linked}
use Rattle.links.specs.Tests.{named, half_named, rooted, undone, shared, joined, around, along, parted, ended, euler, turned, apart, single, clear, hulled, empty}

-- the lowest number below k at which the test fails
abbrev pub failing : ℕ → (ℕ → Bool) → Option ℕ
failing zero t = None
failing (suc k) t = option_or (failing k t) (then_some (not (t k)) k)

-- the lowest pair at which the test fails, by its first number below k and then its second below l
abbrev pub failing2 : ℕ → ℕ → (ℕ → ℕ → Bool) → Option (ℕ × ℕ)
failing2 zero l t = None
failing2 (suc k) l t = option_or (failing2 k l t) (option_map (λ j. (k, j)) (failing l (t k)))

-- a fault
abbrev pub broken : ℕ → ℕ → Site → CheckFault
broken r c a = record { rule = r; clause = c; site = a }

-- the clause is about no record
abbrev pub once : ℕ → ℕ → Bool → Option CheckFault
once r c t = then_some (not t) (broken r c Whole)

-- the clause is about each of k records
abbrev pub each : ℕ → ℕ → (ℕ → Site) → ℕ → (ℕ → Bool) → Option CheckFault
each r c record_of k t = option_map (λ i. broken r c (record_of i)) (failing k t)

-- the clause is about pairs
abbrev pub pairs : ℕ → ℕ → (ℕ → ℕ → Site) → ℕ → ℕ → (ℕ → ℕ → Bool) → Option CheckFault
pairs r c records_of k l t = option_map (λ p. broken r c (records_of p.0 p.1)) (failing2 k l t)

-- ---- rule 1, of the counts, the shelf's count and the tables
module _ (w : List ℕ) (s : Shape) (count : ℕ) where
  -- 1.4 the tables hold at least n entry, e + n edge and f + n face records
  abbrev pub roomy : Bool
  roomy = nat_le s.n s.entries && nat_le (s.e + s.n) s.edges && nat_le (s.f + s.n) s.faces

  abbrev pub rule1 : Option CheckFault
  rule1 =
      option_or (once 1 1 (nat_le s.n 4096 && nat_le s.e 12288 && nat_le 1 s.f && nat_le s.f 8192))
      (option_or (once 1 2 (count == s.n))
      (option_or (once 1 3 (nat_le (size s) (length w)))
      (once 1 4 roomy)))

-- ---- rule 2, of the shelf: the lowest entry without a place, with its fault whole
abbrev pub unplaced : ℕ → Result (ℕ × ℕ) EntryFault → Option CheckFault
unplaced v (Ok p) = None
unplaced v (Err fault) = Some (broken 2 1 (Unplaced v fault))

abbrev pub rule2 : ℕ → (ℕ → Result (ℕ × ℕ) EntryFault) → Option CheckFault
rule2 zero spot = None
rule2 (suc v) spot = option_or (rule2 v spot) (unplaced v (spot v))

-- ---- rules 3 to 8, of the links and the places
module _ (m : Links) where
  abbrev pub rule3 : Option CheckFault
  rule3 =
      option_or (each 3 1 Entry m.n (λ v. named m (m.out v)))
      (option_or (each 3 1 Half (halves m) (half_named m))
      (option_or (each 3 1 Face m.f (λ k. named m (m.adj k)))
      (option_or (each 3 2 Entry m.n (λ v. rooted m (m.out v)))
      (each 3 2 Face m.f (λ k. rooted m (m.adj k))))))

  abbrev pub rule4 : Option CheckFault
  rule4 =
      option_or (each 4 1 Half (halves m) (undone m))
      (option_or (each 4 2 Half (halves m) (shared m))
      (option_or (each 4 3 Half (halves m) (joined m))
      (option_or (each 4 4 Entry m.n (around m))
      (option_or (each 4 4 Face m.f (along m))
      (option_or (each 4 5 Edge m.e (parted m))
      (option_or (each 4 6 Edge m.e (ended m))
      (once 4 7 (euler m))))))))

  abbrev pub rule5 : Option CheckFault
  rule5 = each 5 1 Face m.f (turned m)

  abbrev pub rule6 : Option CheckFault
  rule6 =
      option_or (each 6 1 Edge m.e (apart m))
      (option_or (pairs 6 2 Edges m.e m.e (single m))
      (pairs 6 3 EdgeEntry m.e m.n (clear m)))

  abbrev pub rule7 : Option CheckFault
  rule7 = pairs 7 1 HalfEntry (halves m) m.n (hulled m)

  abbrev pub rule8 : Option CheckFault
  rule8 = pairs 8 1 FaceEntry m.f m.n (empty m)

  -- the rules on places
  abbrev pub place_rules : Option CheckFault
  place_rules = option_or rule5 (option_or rule6 (option_or rule7 rule8))

  -- the rules of links and places
  abbrev pub link_rules : Option CheckFault
  link_rules = option_or rule3 (option_or rule4 place_rules)

-- ---- all rules; `spot` tells the place of each entry of the shelf, or why it has none
abbrev pub x_coordinate : Result (ℕ × ℕ) EntryFault → ℕ
x_coordinate (Ok p) = p.0
x_coordinate (Err fault) = 0

abbrev pub y_coordinate : Result (ℕ × ℕ) EntryFault → ℕ
y_coordinate (Ok p) = p.1
y_coordinate (Err fault) = 0

-- a draft's links with the shelf's places
abbrev pub judged : List ℕ → Shape → (ℕ → Result (ℕ × ℕ) EntryFault) → Links
judged w s spot = linked w s (λ v. x_coordinate (spot v)) (λ v. y_coordinate (spot v))

abbrev pub verdict : List ℕ → Shape → ℕ → (ℕ → Result (ℕ × ℕ) EntryFault) → Option CheckFault
verdict w s count spot = option_or (rule1 w s count) (option_or (rule2 s.n spot) (link_rules (judged w s spot)))

-- accepted, or the fault
abbrev pub told : Option CheckFault → Result (Unit {0}) CheckFault
told None = Ok tt
told (Some fault) = Err fault
