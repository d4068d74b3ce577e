-- Dead records are removed from the highest number down: what stays gets other numbers.
use Rattle.std.proofs.Common.{◌≡◌, ℕ, zero, suc, pred, ◌+◌, ◌<◌, ◌≤◌, Bool, true, false, cond, eqb, ◌≢◌, pos, sym, refl, ap, ◌∙◌, subst, ap₂, inl, inr, arith, ne_eqb, eqb-true}
use borrow.Author.Tests.{eqb-false}
use Rattle.std.proofs.lemmas.Bool.{cases_eq}
use Rattle.plane.specs.Plane.{Pt, pt}
use Rattle.links.specs.Links.{Links, place}
use Rattle.links.proofs.Decide.{never}
use Rattle.surgery.specs.Update.{upd}
use Rattle.surgery.specs.Removal.{Without, carry_edge, fix_swap, move_edge, move_face, move_entry}
use Rattle.surgery.specs.Renamed.{Renumbered}
use Rattle.surgery.specs.Sweep.{swap_remove_edge, swap_remove_face, swap_remove_entry, sweep, cleanup, Staying, number, Others}
use Rattle.surgery.specs.Cleaned.{Three, Cleans}
use Rattle.surgery.proofs.Roots.{Unrooted, unroot}
use Rattle.surgery.proofs.MoveEdge.{edge_renumbered}
use Rattle.surgery.proofs.MoveOne.{face_renumbered, entry_renumbered}
use Rattle.surgery.proofs.Renumbering.{Iff, ident, reworded, after, in_words, unrooted_after, three_after}

-- of the numbers below count, k is dead and all above it live
pub record Top (P : ℕ → Type 0) (count k : ℕ) : Type 0 where
  pub here : k < count
  pub dead : P k → ⊥
  pub low : (j : ℕ) → P j → j < count
  pub above : (j : ℕ) → k < j → j < count → P j

-- what lives after k was removed: the last has its number
abbrev pub Less : (ℕ → Type 0) → ℕ → ℕ → ℕ → Type 0
Less P count k j = (suc j < count) × (j ≢ k → P j)

-- where k is the last, the count falls
last_dropped : (P : ℕ → Type 0) (count k : ℕ) → Top P count k → suc k ≡ count → Iff P (Less P count k)
last_dropped P count k t e j = (
  λ l. let n : j ≢ k = λ q. t.dead (subst P q l) in (omega (arith, t.low j l), λ _. l),
  λ l. l.1 (omega arith),
)

-- where it is not, the last gets its number
last_moved : (P : ℕ → Type 0) (count k : ℕ) → Top P count k → suc k ≢ count → Iff (Without P (pred count) k) (Less P count k)
last_moved P count k t e j = (
  λ w. elim w [
    | inl u ↦ (omega (arith, t.low j u.1, u.0), λ _. u.1)
    | inr q ↦ (omega (arith, t.here), λ n. absurd (n q))
  ],
  λ l. elim (cases_eq j k) [ inl q ↦ inr q | inr n ↦ inl (omega arith, l.1 n) ],
)

-- and it lives
last_lives : (P : ℕ → Type 0) (count k : ℕ) → Top P count k → suc k ≢ count → P (pred count)
last_lives P count k t e = t.above (pred count) (omega (arith, t.here)) (omega (arith, t.here))

-- ---- one record goes
-- a test whether two numbers are equal decides
pub by_test : (T : Links → Type 0) (a b : ℕ) {K M : Links} → (a ≡ b → T K) → (a ≢ b → T M) → T (elim (eqb a b) [ true ↦ K | false ↦ M ])
by_test T a b {K} {M} last other = go (eqb a b) refl
  where
    go : (t : Bool) → eqb a b ≡ t → T (elim t [ true ↦ K | false ↦ M ])
    go true q = last (eqb-true a b q)
    go false q = other (eqb-false a b q)

-- the highest dead edge goes
pub edge_removed : (L : Links) (V E F : ℕ → Type 0) (k : ℕ) → Top E L.e k → Unrooted L V E F → Renumbered L (swap_remove_edge k L) V E F V (Less E L.e k) F
edge_removed L V E F k t W =
    by_test (λ K. Renumbered L K V E F V (Less E L.e k) F) (suc k) L.e
    (λ q. reworded L.n k L.f (ident V) (last_dropped E L.e k t q) (ident F) W)
    (λ n. in_words (ident V) (last_moved E L.e k t n) (ident F) W (edge_renumbered L V E F (pred L.e) k (last_lives E L.e k t n) t.dead W))

-- the highest dead face, an inner one
pub face_removed : (L : Links) (V E F : ℕ → Type 0) (k : ℕ) → k ≢ 0 → Top F L.f k → Three L E → Unrooted L V E F → Renumbered L (swap_remove_face k L) V E F V E (Less F L.f k)
face_removed L V E F k k0 t three W =
    by_test (λ K. Renumbered L K V E F V E (Less F L.f k)) (suc k) L.f
    (λ q. reworded L.n L.e k (ident V) (ident E) (last_dropped F L.f k t q) W)
    (λ n. let l = last_lives F L.f k t n in in_words (ident V) (ident E) (last_moved F L.f k t n) W
    (face_renumbered L V E F (pred L.f) k l (λ z. k0 (omega (arith, z, t.here))) k0 t.dead (ring l (λ z. k0 (omega (arith, z, t.here)))) W))
  where
    ring : {m : ℕ} → F m → m ≢ 0 → L.next (L.next (L.adj m)) ≡ L.prev (L.adj m)
    ring {m} l m0 =
        let la = W.adj_live m l in
        sym (W.prev_next _ (W.next_live _ (W.next_live _ la))) ∙ ap L.prev (three _ la (λ z. m0 (sym (W.adj_face m l) ∙ z))).1

-- the highest dead entry
pub entry_removed : (L : Links) (V E F : ℕ → Type 0) (k : ℕ) → Top V L.n k → Unrooted L V E F → Renumbered L (swap_remove_entry k L) V E F (Less V L.n k) E F
entry_removed L V E F k t W =
    by_test (λ K. Renumbered L K V E F (Less V L.n k) E F) (suc k) L.n
    (λ q. reworded k L.e L.f (last_dropped V L.n k t q) (ident E) (ident F) W)
    (λ n. in_words (last_moved V L.n k t n) (ident E) (ident F) W (entry_renumbered L V E F (pred L.n) k (last_lives V L.n k t n) t.dead W))

-- ---- what else changes
-- entries and their places stay
pub record Same (L K : Links) : Type 0 where
  pub n : K.n ≡ L.n
  pub at : (w : ℕ) → place K w ≡ place L w

-- the last number
one_less : (a k : ℕ) → k < a → suc (pred a) ≡ a
one_less a k l = omega arith

-- one edge fewer
pub edge_counts : (L : Links) (k : ℕ) → k < L.e → (suc (swap_remove_edge k L).e ≡ L.e) × ((swap_remove_edge k L).f ≡ L.f) × Same L (swap_remove_edge k L)
unfolding move_edge fix_swap carry_edge
edge_counts L k l =
    by_test (λ K. (suc K.e ≡ L.e) × (K.f ≡ L.f) × Same L K) (suc k) L.e
    (λ q. (q, refl, record { n = refl; at = λ _. refl }))
    (λ _. (one_less L.e k l, refl, record { n = refl; at = λ _. refl }))

-- one face fewer
pub face_counts : (L : Links) (k : ℕ) → k < L.f → (suc (swap_remove_face k L).f ≡ L.f) × ((swap_remove_face k L).e ≡ L.e) × Same L (swap_remove_face k L)
unfolding move_face
face_counts L k l =
    by_test (λ K. (suc K.f ≡ L.f) × (K.e ≡ L.e) × Same L K) (suc k) L.f
    (λ q. (q, refl, record { n = refl; at = λ _. refl }))
    (λ _. (one_less L.f k l, refl, record { n = refl; at = λ _. refl }))

-- one entry fewer
pub entry_counts : (L : Links) (k : ℕ) → k < L.n → (suc (swap_remove_entry k L).n ≡ L.n) × ((swap_remove_entry k L).e ≡ L.e) × ((swap_remove_entry k L).f ≡ L.f)
unfolding move_entry
entry_counts L k l =
    by_test (λ K. (suc K.n ≡ L.n) × (K.e ≡ L.e) × (K.f ≡ L.f)) (suc k) L.n (λ q. (q, refl, refl)) (λ _. (one_less L.n k l, refl, refl))

-- the place of an entry after: the last one has the number k
moved_at : (g : ℕ → ℕ) (m d w : ℕ) → upd g d (g m) w ≡ g (cond (eqb w d) m w)
unfolding upd
moved_at g m d w = go (eqb w d)
  where
    go : (b : Bool) → elim b [ true ↦ g m | false ↦ g w ] ≡ g (cond b m w)
    go true = refl
    go false = refl

pub entry_places : (L : Links) (k w : ℕ) → suc w < L.n → place (swap_remove_entry k L) w ≡ place L (cond (eqb w k) (pred L.n) w)
unfolding move_entry
entry_places L k w l = by_test (λ K. place K w ≡ place L (cond (eqb w k) (pred L.n) w)) (suc k) L.n
    (λ q. ap {B = Pt} (λ b. place L (cond b (pred L.n) w)) (sym (ne_eqb w k (omega arith))))
    (λ _. ap₂ (λ x y. pt (pos x) (pos y)) (moved_at L.x (pred L.n) k w) (moved_at L.y (pred L.n) k w))

-- ---- one record goes, and every other one lives
-- it is the highest dead one
others_top : (count n k : ℕ) → count ≡ n → k < n → Top (Others n k) count k
others_top count n k e l = record {
  here = omega arith;
  dead = λ t. t.1 refl;
  low = λ j t. omega (arith, t.0, e);
  above = λ j b c. (omega arith, omega arith);
}

-- and what lives after is what is below the count
others_less : (less count n k : ℕ) → suc less ≡ count → count ≡ n → Iff (Less (Others n k) count k) (λ j. j < less)
others_less less count n k e q j = ((λ t. omega (arith, t.0)), λ t. (omega arith, λ z. (omega arith, z)))

-- an edge
pub edge_gone : (L : Links) (e k : ℕ) (V F : ℕ → Type 0) → L.e ≡ e → k < e → Unrooted L V (Others e k) F
    → let K = swap_remove_edge k L in Renumbered L K V (Others e k) F V (λ j. j < K.e) F
edge_gone L e k V F q l W =
    in_words (ident V) (others_less (swap_remove_edge k L).e L.e e k (edge_counts L k (omega arith)).0 q) (ident F) W (edge_removed L V (Others e k) F k (others_top L.e e k q l) W)

-- an entry
pub entry_gone : (L : Links) (n v : ℕ) (E F : ℕ → Type 0) → L.n ≡ n → v < n → Unrooted L (Others n v) E F
    → let K = swap_remove_entry v L in Renumbered L K (Others n v) E F (λ w. w < K.n) E F
entry_gone L n v E F q l W =
    in_words (others_less (swap_remove_entry v L).n L.n n v (entry_counts L v (omega arith)).0 q) (ident E) (ident F) W (entry_removed L (Others n v) E F v (others_top L.n n v q l) W)

-- ---- all dead records go
-- the dead ones left are those below k
abbrev Till : ℕ → (ℕ → Bool) → ℕ → ℕ → Type 0
Till count dead k j = (j < count) × (j < k → dead j ≡ false)

-- then k is the highest dead one
till_top : (count : ℕ) (dead : ℕ → Bool) (k : ℕ) → dead k ≡ true → k < count → Top (Till count dead (suc k)) count k
till_top count dead k d l = record {
  here = l;
  dead = λ t. never (sym (t.1 (omega arith)) ∙ d);
  low = λ j t. t.0;
  above = λ j b c. (c, λ z. absurd (omega (arith, z, b)));
}

-- once it is gone, those below k are left
till_less : (count less : ℕ) (dead : ℕ → Bool) (k : ℕ) → suc less ≡ count → Iff (Less (Till count dead (suc k)) count k) (Till less dead k)
till_less count less dead k e j = (
  λ t. (omega arith, λ z. (t.1 (omega arith)).1 (omega arith)),
  λ t. (omega arith, λ n. (omega arith, λ z. t.1 (omega arith))),
)

-- and so where it lives
till_alive : (count : ℕ) (dead : ℕ → Bool) (k : ℕ) → dead k ≡ false → Iff (Till count dead (suc k)) (Till count dead k)
till_alive count dead k d j = (
  λ t. (t.0, λ z. t.1 (omega arith)),
  λ t. (t.0, λ z. elim (cases_eq j k) [ inl q ↦ ap dead q ∙ d | inr n ↦ t.1 (omega arith) ]),
)

-- S says of a state what is swept, P what lives in it
record Sweeps (remove : ℕ → Links → Links) (count : Links → ℕ) (dead : ℕ → Bool) (S : Links → (ℕ → Type 0) → Type 0) : Type 1 where
  words : (K : Links) (P Q : ℕ → Type 0) → Iff P Q → S K P → S K Q
  fewer : (K : Links) (k : ℕ) → k < count K → suc (count (remove k K)) ≡ count K
  goes : (K : Links) (P : ℕ → Type 0) (k : ℕ) → dead k ≡ true → Top P (count K) k → S K P → S (remove k K) (Less P (count K) k)

module _ (remove : ℕ → Links → Links) (count : Links → ℕ) (dead : ℕ → Bool) (S : Links → (ℕ → Type 0) → Type 0) (w : Sweeps remove count dead S) where
  -- M is the state after, and so many went
  abbrev Swept : Links → Links → ℕ → Type 0
  Swept K M gone = S M (λ j. j < count M) × (count M + gone ≡ count K)

  -- one number
  swept_step : (k : ℕ) (b : Bool) → dead k ≡ b → (K : Links) → k < count K → S K (Till (count K) dead (suc k))
      → ((M : Links) → k ≤ count M → S M (Till (count M) dead k) → Swept M (sweep remove dead k M) (number dead k))
      → Swept K (sweep remove dead k (elim b [ true ↦ remove k K | false ↦ K ])) (elim b [ true ↦ suc (number dead k) | false ↦ number dead k ])
  swept_step k true d K l s rest =
      let c = w.fewer K k l in
      let r = rest (remove k K) (omega arith) (w.words _ _ _ (till_less (count K) (count (remove k K)) dead k c) (w.goes K _ k d (till_top (count K) dead k d l) s)) in
      (r.0, omega (arith, r.1, c))
  swept_step k false d K l s rest = rest K (omega arith) (w.words K _ _ (till_alive (count K) dead k d) s)

  -- all numbers below k
  swept : (k : ℕ) (K : Links) → k ≤ count K → S K (Till (count K) dead k) → Swept K (sweep remove dead k K) (number dead k)
  swept zero K l s = (w.words K _ _ (λ j. ((λ t. t.0), λ t. (t, λ z. absurd (omega (arith, z))))) s, omega arith)
  swept (suc k) K l s = swept_step k (dead k) refl K l s (swept k)

  -- from the count on
  swept_all : (K : Links) → S K (Staying (count K) dead) → Swept K (sweep remove dead (count K) K) (number dead (count K))
  swept_all K s = swept (count K) K (omega arith) (w.words K _ _ (λ j. ((λ t. (t.0, λ _. t.1)), λ t. (t.0, t.1 t.0))) s)

same_after : {L K M : Links} → Same L K → Same K M → Same L M
same_after a b = record { n = b.n ∙ a.n; at = λ w. b.at w ∙ a.at w }

-- the edges
pub edges_swept : (L : Links) (V F : ℕ → Type 0) (dead : ℕ → Bool) → Unrooted L V (Staying L.e dead) F
    → let K = sweep swap_remove_edge dead L.e L in
    (Renumbered L K V (Staying L.e dead) F V (λ k. k < K.e) F × (K.f ≡ L.f) × Same L K) × (K.e + number dead L.e ≡ L.e)
edges_swept L V F dead W = swept_all swap_remove_edge (λ K. K.e) dead S
    (record {
      words = λ K P Q i s. (in_words (ident V) i (ident F) W s.0, s.1, s.2);
      fewer = λ K k l. (edge_counts K k l).0;
      goes = λ K P k _ t s. let c = edge_counts K k t.here in (after s.0 (edge_removed K V P F k t (unrooted_after s.0 W)), c.1 ∙ s.1, same_after s.2 c.2);
    })
    L (reworded L.n L.e L.f (ident V) (ident _) (ident F) W, refl, record { n = refl; at = λ _. refl })
  where
    S : Links → (ℕ → Type 0) → Type 0
    S K P = Renumbered L K V (Staying L.e dead) F V P F × (K.f ≡ L.f) × Same L K

-- the faces, but not the outer one
pub faces_swept : (L : Links) (V E : ℕ → Type 0) (dead : ℕ → Bool) → dead 0 ≡ false → Three L E → Unrooted L V E (Staying L.f dead)
    → let K = sweep swap_remove_face dead L.f L in
    (Renumbered L K V E (Staying L.f dead) V E (λ g. g < K.f) × (K.e ≡ L.e) × Same L K) × (K.f + number dead L.f ≡ L.f)
faces_swept L V E dead outer three W = swept_all swap_remove_face (λ K. K.f) dead S
    (record {
      words = λ K P Q i s. (in_words (ident V) (ident E) i W s.0, s.1, s.2);
      fewer = λ K k l. (face_counts K k l).0;
      goes = λ K P k d t s. let c = face_counts K k t.here in (
        after s.0 (face_removed K V E P k (λ z. never (sym outer ∙ ap dead (sym z) ∙ d)) t (three_after s.0 W three) (unrooted_after s.0 W)),
        c.1 ∙ s.1,
        same_after s.2 c.2,
      );
    })
    L (reworded L.n L.e L.f (ident V) (ident E) (ident _) W, refl, record { n = refl; at = λ _. refl })
  where
    S : Links → (ℕ → Type 0) → Type 0
    S K P = Renumbered L K V E (Staying L.f dead) V E P × (K.e ≡ L.e) × Same L K

-- equal counts say the same
pub recount : {a b : ℕ} → a ≡ b → Iff (λ j. j < a) (λ j. j < b)
recount e j = ((λ l. omega arith), λ l. omega arith)

restay : {a b : ℕ} (dead : ℕ → Bool) → a ≡ b → Iff (Staying a dead) (Staying b dead)
restay dead e j = ((λ t. (omega (arith, t.0, e), t.1)), λ t. (omega (arith, t.0, e), t.1))

-- the edges, and then the faces
pub cleaned : (L : Links) (V : ℕ → Type 0) (edge face : ℕ → Bool) → face 0 ≡ false → Three L (Staying L.e edge) → Unrooted L V (Staying L.e edge) (Staying L.f face)
    → let K = cleanup edge face L in
    Renumbered L K V (Staying L.e edge) (Staying L.f face) V (λ k. k < K.e) (λ g. g < K.f)
    × (K.e + number edge L.e ≡ L.e) × (K.f + number face L.f ≡ L.f) × Same L K
cleaned L V edge face outer three W =
    let K = sweep swap_remove_edge edge L.e L in
    let a = edges_swept L V (Staying L.f face) edge W in
    let R = in_words (ident V) (ident _) (restay face (sym a.0.1)) W a.0.0 in
    let b = faces_swept K V (λ k. k < K.e) face outer (three_after R W three) (unrooted_after R W) in (
      in_words (ident V) (recount (sym b.0.1)) (ident _) W (after R b.0.0),
      ap (λ k. k + number edge L.e) b.0.1 ∙ a.1,
      ap (λ f. (cleanup edge face L).f + number face f) (sym a.0.1) ∙ b.1 ∙ a.0.1,
      same_after a.0.2 b.0.2,
    )

-- all of it
pub cleans : Cleans
cleans L v edge face l outer J three =
    let V = Others L.n v in
    let W = unroot L V (Staying L.e edge) (Staying L.f face) L.e (λ k t. t.0) J in
    let c = cleaned L V edge face outer three W in
    let K = cleanup edge face L in
    let d = entry_counts K v (omega (arith, l, c.3.n)) in (
      in_words (ident _) (recount (sym d.1)) (recount (sym d.2)) W (after c.0 (entry_gone K L.n v _ _ c.3.n l (unrooted_after c.0 W))),
      d.0 ∙ c.3.n,
      ap (λ k. k + number edge L.e) d.1 ∙ c.1,
      ap (λ k. k + number face L.f) d.2 ∙ c.2,
      (λ w b. entry_places K v w (omega (arith, b, d.0)) ∙ c.3.at _ ∙ ap (λ n. place L (cond (eqb w v) (pred n) w)) c.3.n),
    )
