-- A draft is accepted exactly if its tables and the shelf's places are sound.
use Rattle.std.proofs.Common.{◌≡◌, ℕ, zero, suc, ◌+◌, ◌*◌, ◌<◌, ◌≤◌, Bool, true, false, not, ◌&&◌, T, leb, List, length, pos, Some, None, Ok, Err, Decides, Option, Result, refl, subst, not-suc-le-zero, arith}
use Rattle.std.specs.Option.{option_map, option_or}
use Rattle.std.specs.Bool.{then_some}
use Rattle.entry.specs.declared.fault.EntryFault.{EntryFault}
use Rattle.links.specs.declared.fault.Site.{Site}
use Rattle.links.specs.declared.shape.Shape.{Shape}
use Rattle.links.specs.Links.{Links, none, halves, to, ccw, Reached}
use Rattle.links.specs.Rules as R
use Rattle.links.specs.Tests as test
use Rattle.links.specs.Tables.{size}
use Rattle.links.specs.Verdict.{failing, failing2, each, pairs, rule1, rule2, unplaced, rule3, rule4, link_rules, judged}
use Rattle.links.specs.Law.{EveryPlace, AcceptedIfSound}
use Rattle.links.proofs.Decide.{never, is_true, dec_and, dec_and3, dec_and4, dec_or, dec_not, dec_implies, dec_same, dec_eq, dec_nat_lt, dec_nat_le, dec_le_z, dec_lt_z, dec_zero, dec_all, below_next}
use Rattle.links.proofs.Halves.{rev_below}
use Rattle.links.proofs.Walks.{dec_reached}

-- no fault is found exactly if P
abbrev Passes : {X : Type 0} → Option X → Type 0 → Type 0
Passes o P = (o ≡ None → P) × (P → o ≡ None)

found : {X A : Type 0} {x : X} → Some x ≡ None → A
found e = absurd (subst tells e tt)
  where
    tells : {X : Type 0} → Option X → Type 0
    tells None = ⊥
    tells (Some x) = Unit {0}

then : {X : Type 0} {a b : Option X} {P Q : Type 0} → Passes a P → (P → Passes b Q) → Passes (option_or a b) (P × Q)
then {a = None} p q = ((λ e. (p.0 refl, (q (p.0 refl)).0 e)), (λ h. (q h.0).1 h.1))
then {a = Some x} p q = ((λ e. found e), (λ h. found (p.1 h.0)))

unless : {X : Type 0} (b : Bool) (x : X) {P : Type 0} → Decides b P → Passes (then_some (not b) x) P
unless true x d = ((λ e. d.0 refl), (λ h. refl))
unless false x d = ((λ e. found e), (λ h. never (d.1 h)))

under : {X Y : Type 0} (f : X → Y) (o : Option X) {P : Type 0} → Passes o P → Passes (option_map f o) P
under f None p = ((λ e. p.0 refl), (λ h. refl))
under f (Some x) p = ((λ e. found e), (λ h. found (p.1 h)))

failing_passes : (k : ℕ) (t : ℕ → Bool) (P : ℕ → Type 0) → ((i : ℕ) → i < k → Decides (t i) (P i)) → Passes (failing k t) ((i : ℕ) → i < k → P i)
failing_passes zero t P d = ((λ e i l. absurd (not-suc-le-zero l)), (λ h. refl))
failing_passes (suc k) t P d =
    let r = then (failing_passes k t P (λ i l. d i (omega arith))) (λ _. unless (t k) k (d k (omega arith))) in
    ((λ e. let h = r.0 e in below_next P k h.0 h.1), (λ h. r.1 ((λ i l. h i (omega arith)), h k (omega arith))))

failing2_passes : (k l : ℕ) (t : ℕ → ℕ → Bool) (P : ℕ → ℕ → Type 0) → ((i j : ℕ) → i < k → j < l → Decides (t i j) (P i j))
    → Passes (failing2 k l t) ((i : ℕ) → i < k → (j : ℕ) → j < l → P i j)
failing2_passes zero l t P d = ((λ e i h. absurd (not-suc-le-zero h)), (λ h. refl))
failing2_passes (suc k) l t P d =
    let r = then (failing2_passes k l t P (λ i j a b. d i j (omega arith) b)) (λ _. under (λ j. (k, j)) (failing l (t k)) (failing_passes l (t k) (P k) (λ j b. d k j (omega arith) b))) in
    ((λ e. let h = r.0 e in below_next (λ i. (j : ℕ) → j < l → P i j) k h.0 h.1), (λ h. r.1 ((λ i a. h i (omega arith)), h k (omega arith))))

each_passes : (r c : ℕ) (a : ℕ → Site) (k : ℕ) (t : ℕ → Bool) (P : ℕ → Type 0) → ((i : ℕ) → i < k → Decides (t i) (P i)) → Passes (each r c a k t) ((i : ℕ) → i < k → P i)
each_passes r c a k t P d = under _ (failing k t) (failing_passes k t P d)

pairs_passes : (r c : ℕ) (a : ℕ → ℕ → Site) (k l : ℕ) (t : ℕ → ℕ → Bool) (P : ℕ → ℕ → Type 0) → ((i j : ℕ) → i < k → j < l → Decides (t i j) (P i j))
    → Passes (pairs r c a k l t) ((i : ℕ) → i < k → (j : ℕ) → j < l → P i j)
pairs_passes r c a k l t P d = under _ (failing2 k l t) (failing2_passes k l t P d)

-- ---- the clauses, one by one
dec_present : (i : ℕ) → Decides (test.present i) (R.Present i)
dec_present i = dec_not (dec_eq i none)

and_then : {a b : Bool} {P Q : Type 0} → Decides a P → (P → Decides b Q) → Decides (a && b) (P × Q)
and_then {a = true} p q = ((λ e. (p.0 refl, (q (p.0 refl)).0 e)), (λ h. (q h.0).1 h.1))
and_then {a = false} p q = ((λ e. never e), (λ h. p.1 h.0))

module _ (m : Links) where
  dec_named : (i : ℕ) → Decides (test.named m i) (R.Named m i)
  dec_named i = dec_implies (dec_present i) (dec_nat_lt i (halves m))

  dec_half_named : (h : ℕ) → Decides (test.half_named m h) (R.IsHalfNamed m h)
  dec_half_named h = dec_and4 (dec_nat_lt (m.next h) (halves m)) (dec_nat_lt (m.prev h) (halves m)) (dec_nat_lt (m.face h) m.f) (dec_nat_lt (m.origin h) m.n)

  dec_rooted : (i : ℕ) → Decides (test.rooted m i) (R.Rooted m i)
  dec_rooted i = dec_same (dec_present i) (dec_nat_le 2 m.n)

  dec_undone : (h : ℕ) → Decides (test.undone m h) (R.Undone m h)
  dec_undone h = dec_and (dec_eq (m.prev (m.next h)) h) (dec_eq (m.next (m.prev h)) h)

  dec_cycle : (step owner : ℕ → ℕ) (k s : ℕ) → ((h : ℕ) → h < halves m → step h < halves m) → (R.Present s → s < halves m) → Decides (test.cycle m step owner k s) (R.Cycle m step owner k s)
  dec_cycle step owner k s inside at =
      dec_and (dec_implies (dec_present s) (dec_eq (owner s) k))
      (dec_all (halves m) _ (λ h. owner h ≡ k → R.Present s × Reached step s h)
      (λ h l. dec_implies (dec_eq (owner h) k) (and_then (dec_present s) (λ p. dec_reached (halves m) step inside s h (at p)))))

  dec_parted : (k : ℕ) → Decides (test.parted m k) (R.Parted m k)
  dec_parted k = dec_implies (dec_nat_lt 1 m.f) (dec_not (dec_eq (m.face (2 * k)) (m.face (2 * k + 1))))

  dec_euler : Decides (test.euler m) (R.Euler m)
  dec_euler =
      dec_and (dec_implies (dec_eq m.n 0) (dec_and (dec_eq m.e 0) (dec_eq m.f 1)))
      (dec_implies (dec_not (dec_eq m.n 0)) (dec_eq (m.n + m.f) (m.e + 2)))

  dec_turned : (k : ℕ) → Decides (test.turned m k) (R.Turned m k)
  dec_turned k =
      dec_implies (dec_not (dec_eq k 0))
      (dec_and3 (dec_not (dec_eq (m.next (m.adj k)) (m.adj k))) (dec_eq (m.next (m.next (m.next (m.adj k)))) (m.adj k)) (dec_lt_z (pos 0) _))

  dec_apart : (k : ℕ) → Decides (test.apart m k) (R.Apart m k)
  dec_apart k = dec_not (dec_and (dec_eq _ _) (dec_eq _ _))

  dec_single : (k l : ℕ) → Decides (test.single m k l) (R.Single m k l)
  dec_single k l = dec_implies (dec_nat_lt k l) (dec_not (dec_or (dec_and (dec_eq _ _) (dec_eq _ _)) (dec_and (dec_eq _ _) (dec_eq _ _))))

  dec_clear : (k v : ℕ) → Decides (test.clear m k v) (R.Clear m k v)
  dec_clear k v = dec_implies (dec_and (dec_zero _) (dec_le_z _ (pos 0))) (dec_or (dec_eq v _) (dec_eq v _))

  dec_hulled : (h v : ℕ) → Decides (test.hulled m h v) (R.Hulled m h v)
  dec_hulled h v = dec_implies (dec_eq (m.face h) 0) (dec_le_z _ (pos 0))

  dec_empty : (k v : ℕ) → Decides (test.empty m k v) (R.Empty m k v)
  dec_empty k v = dec_implies (dec_not (dec_eq k 0)) (dec_le_z _ (pos 0))

  -- ---- the rules
  abbrev Every : ℕ → (ℕ → Type 0) → Type 0
  Every k P = (i : ℕ) → i < k → P i

  abbrev Rule3 : Type 0
  Rule3 =
      Every m.n (λ v. R.Named m (m.out v)) × (Every (halves m) (R.IsHalfNamed m) × (Every m.f (λ k. R.Named m (m.adj k))
      × (Every m.n (λ v. R.Rooted m (m.out v)) × Every m.f (λ k. R.Rooted m (m.adj k)))))

  passes3 : Passes (rule3 m) Rule3
  passes3 =
      then (each_passes 3 1 _ m.n _ _ (λ v _. dec_named (m.out v)))
      (λ _. then (each_passes 3 1 _ (halves m) _ _ (λ h _. dec_half_named h))
      (λ _. then (each_passes 3 1 _ m.f _ _ (λ k _. dec_named (m.adj k)))
      (λ _. then (each_passes 3 2 _ m.n _ _ (λ v _. dec_rooted (m.out v)))
      (λ _. each_passes 3 2 _ m.f _ _ (λ k _. dec_rooted (m.adj k))))))

  abbrev Rule4 : Type 0
  Rule4 =
      Every (halves m) (R.Undone m) × (Every (halves m) (R.Shared m) × (Every (halves m) (R.Joined m) × (Every m.n (R.Around m)
      × (Every m.f (R.Along m) × (Every m.e (R.Parted m) × (Every m.e (R.Ended m) × R.Euler m))))))

  passes4 : Rule3 → Passes (rule4 m) Rule4
  passes4 r3 =
      then (each_passes 4 1 _ (halves m) _ _ (λ h _. dec_undone h))
      (λ _. then (each_passes 4 2 _ (halves m) _ _ (λ h _. dec_eq (m.face (m.next h)) (m.face h)))
      (λ _. then (each_passes 4 3 _ (halves m) _ _ (λ h _. dec_eq (to m h) (m.origin (m.next h))))
      (λ _. then (each_passes 4 4 _ m.n _ _ (λ v l. dec_cycle (ccw m) m.origin v (m.out v) (λ h b. rev_below m.e (m.prev h) (r3.1.0 h b).1) (r3.0 v l)))
      (λ _. then (each_passes 4 4 _ m.f _ _ (λ k l. dec_cycle m.next m.face k (m.adj k) (λ h b. (r3.1.0 h b).0) (r3.1.1.0 k l)))
      (λ _. then (each_passes 4 5 _ m.e _ _ (λ k _. dec_parted k))
      (λ _. then (each_passes 4 6 _ m.e _ _ (λ k _. dec_not (dec_eq (m.origin (2 * k)) (m.origin (2 * k + 1)))))
      (λ _. unless (test.euler m) _ dec_euler)))))))

  abbrev Rules : Type 0
  Rules =
      Rule3 × (Rule4 × (Every m.f (R.Turned m) × ((Every m.e (R.Apart m)
      × (((i : ℕ) → i < m.e → (j : ℕ) → j < m.e → R.Single m i j) × ((i : ℕ) → i < m.e → (j : ℕ) → j < m.n → R.Clear m i j)))
      × (((i : ℕ) → i < halves m → (j : ℕ) → j < m.n → R.Hulled m i j) × ((i : ℕ) → i < m.f → (j : ℕ) → j < m.n → R.Empty m i j)))))

  passes : Passes (link_rules m) Rules
  passes =
      then passes3
      (λ r3. then (passes4 r3)
      (λ _. then (each_passes 5 1 _ m.f _ _ (λ k _. dec_turned k))
      (λ _. then
      (then (each_passes 6 1 _ m.e _ _ (λ k _. dec_apart k))
      (λ _. then (pairs_passes 6 2 _ m.e m.e _ _ (λ k l _ _. dec_single k l))
      (λ _. pairs_passes 6 3 _ m.e m.n _ _ (λ k v _ _. dec_clear k v))))
      (λ _. then (pairs_passes 7 1 _ (halves m) m.n _ _ (λ h v _ _. dec_hulled h v))
      (λ _. pairs_passes 8 1 _ m.f m.n _ _ (λ k v _ _. dec_empty k v))))))

  sound_in : R.Counted m → ((v : ℕ) → v < m.n → R.Placed m v) → Rules → R.Sound m
  sound_in c p r = record {
    counted = c;
    placed = p;
    out_named = r.0.0;
    half_named = r.0.1.0;
    adj_named = r.0.1.1.0;
    out_rooted = r.0.1.1.1.0;
    adj_rooted = r.0.1.1.1.1;
    undone = r.1.0.0;
    shared = r.1.0.1.0;
    joined = r.1.0.1.1.0;
    around = r.1.0.1.1.1.0;
    along = r.1.0.1.1.1.1.0;
    parted = r.1.0.1.1.1.1.1.0;
    ended = r.1.0.1.1.1.1.1.1.0;
    euler = r.1.0.1.1.1.1.1.1.1;
    turned = r.1.1.0;
    apart = r.1.1.1.0.0;
    single = λ k l a b. r.1.1.1.0.1.0 k a l b;
    clear = λ k v a b. r.1.1.1.0.1.1 k a v b;
    hulled = λ h v a b. r.1.1.1.1.0 h a v b;
    empty = λ k v a b. r.1.1.1.1.1 k a v b;
  }

  sound_out : R.Sound m → Rules
  sound_out s = (
    (s.out_named, (s.half_named, (s.adj_named, (s.out_rooted, s.adj_rooted)))),
    (
      (s.undone, (s.shared, (s.joined, (s.around, (s.along, (s.parted, (s.ended, s.euler))))))),
      (s.turned, ((s.apart, ((λ k a l b. s.single k l a b), (λ k a v b. s.clear k v a b))), ((λ h a v b. s.hulled h v a b), (λ k a v b. s.empty k v a b)))),
    ),
  )

-- a map whose clauses all pass is sound: for maps that are written out
pub sound_by_tests : (m : Links) → T (test.counted m) → T (test.all m.n (λ v. leb (m.x v) 16383 && leb (m.y v) 16383)) → link_rules m ≡ None → R.Sound m
sound_by_tests m c p e =
    sound_in m ((dec_and4 (dec_nat_le m.n 4096) (dec_nat_le m.e 12288) (dec_nat_le 1 m.f) (dec_nat_le m.f 8192)).0 (is_true _ c))
    ((dec_all m.n _ (R.Placed m) (λ v _. dec_and (dec_nat_le (m.x v) 16383) (dec_nat_le (m.y v) 16383))).0 (is_true _ p)) ((passes m).0 e)

-- and the clauses of a sound map pass
pub sound_passes : (m : Links) → R.Sound m → link_rules m ≡ None
sound_passes m s = (passes m).1 (sound_out m s)

-- ---- the counts and the tables
module _ (w : List ℕ) (s : Shape) (count : ℕ) where
  abbrev Sized : Type 0
  Sized = (s.n ≤ 4096) × (s.e ≤ 12288) × (1 ≤ s.f) × (s.f ≤ 8192)

  abbrev Rule1 : Type 0
  Rule1 = Sized × ((count ≡ s.n) × ((size s ≤ length w) × ((s.n ≤ s.entries) × (s.e + s.n ≤ s.edges) × (s.f + s.n ≤ s.faces))))

  passes1 : Passes (rule1 w s count) Rule1
  passes1 =
      then (unless _ _ (dec_and4 (dec_nat_le s.n 4096) (dec_nat_le s.e 12288) (dec_nat_le 1 s.f) (dec_nat_le s.f 8192)))
      (λ _. then (unless _ _ (dec_eq count s.n))
      (λ _. then (unless _ _ (dec_nat_le (size s) (length w)))
      (λ _. unless _ _ (dec_and3 (dec_nat_le s.n s.entries) (dec_nat_le (s.e + s.n) s.edges) (dec_nat_le (s.f + s.n) s.faces)))))

-- ---- the shelf
passes2_at : (v : ℕ) (r : Result (ℕ × ℕ) EntryFault) → Passes (unplaced v r) ((p : ℕ × ℕ) × (r ≡ Ok p))
passes2_at v (Ok p) = ((λ e. (p, refl)), (λ h. refl))
passes2_at v (Err f) = ((λ e. found e), (λ h. absurd (subst tells h.1 tt)))
  where
    tells : Result (ℕ × ℕ) EntryFault → Type 0
    tells (Ok p) = ⊥
    tells (Err f) = Unit {0}

pub passes2 : (n : ℕ) (spot : ℕ → Result (ℕ × ℕ) EntryFault) → Passes (rule2 n spot) (EveryPlace n spot)
passes2 zero spot = ((λ e v l. absurd (not-suc-le-zero l)), (λ h. refl))
passes2 (suc n) spot =
    let r = then (passes2 n spot) (λ _. passes2_at n (spot n)) in
    ((λ e. let h = r.0 e in below_next (λ v. (p : ℕ × ℕ) × (spot v ≡ Ok p)) n h.0 h.1), (λ h. r.1 ((λ v l. h v (omega arith)), h n (omega arith))))

-- ---- the law
pub law : AcceptedIfSound
law w s count spot grid =
    let all_rules = then (passes1 w s count) (λ _. then (passes2 s.n spot) (λ _. passes (judged w s spot))) in (
      (λ e. let h = all_rules.0 e in (
        record { counts = h.0.1.0; holds = h.0.1.1.0; entries = h.0.1.1.1.0; edges = h.0.1.1.1.1; faces = h.0.1.1.1.2 },
        h.1.0,
        sound_in (judged w s spot) h.0.0 (λ v l. placed v (h.1.0 v l)) h.1.1,
      )),
      (λ h. all_rules.1 ((h.2.counted, (h.0.counts, (h.0.holds, (h.0.entries, h.0.edges, h.0.faces)))), (h.1, sound_out (judged w s spot) h.2))),
    )
  where
    placed : (v : ℕ) → (p : ℕ × ℕ) × (spot v ≡ Ok p) → R.Placed (judged w s spot) v
    placed v (p, e) = rw e (grid v p.0 p.1 e)
