-- What is left when dead edges and faces and an entry have been removed is a sound map.
use Rattle.std.proofs.Common.{◌≡◌, ℕ, suc, pred, ◌+◌, ◌<◌, ◌≤◌, Bool, true, false, cond, not, ◌&&◌, eqb, ltb, Decides, sym, refl, ap, ◌∙◌, arith}
use Rattle.links.specs.Links.{Links, to, place}
use Rattle.links.specs.Rules.{Sound}
use Rattle.links.proofs.Decide.{dec_eq, dec_nat_lt, dec_and, dec_not, never}
use Rattle.surgery.specs.Linked.{Linked}
use Rattle.surgery.specs.Renamed.{Renumbered}
use Rattle.surgery.specs.Shaped.{Shaped, Ruled}
use Rattle.surgery.specs.Sweep.{swap_remove_entry, cleanup, Staying, number, Others}
use Rattle.surgery.specs.Theorems.{AllLinked}
use Rattle.surgery.proofs.Updates.{rev_live}
use Rattle.surgery.proofs.Roots.{Unrooted, unroot, root}
use Rattle.surgery.proofs.Renumbering.{Iff, reworded, unrooted_after, shaped_after, ruled_after}
use Rattle.surgery.proofs.Sweeping.{cleans}
use Rattle.erasure.proofs.Finish.{LastAt, finish, finish_line}

-- what lives may be said in other words
pub relinked : {L : Links} {V E F V' E' F' : ℕ → Type 0} (bound : ℕ) → ((k : ℕ) → E k → k < bound) → Iff V V' → Iff E E' → Iff F F' → Linked L V E F → Linked L V' E' F'
relinked {L} {V} {E} {F} {V'} {E'} {F'} bound low iv ie if J =
    let W = unroot L V E F bound low J in
    root L V' E' F' (unrooted_after (reworded L.n L.e L.f iv ie if W) W)

-- the tests of what lives, as facts
pub dec_others : (n v w : ℕ) → Decides (ltb w n && not (eqb w v)) (Others n v w)
dec_others n v w = dec_and (dec_nat_lt w n) (dec_not (dec_eq w v))

pub dec_staying : (count : ℕ) (dead : ℕ → Bool) (k : ℕ) → Decides (ltb k count && not (dead k)) (Staying count dead k)
dec_staying count dead k = dec_and (dec_nat_lt k count) (is_false (dead k))
  where
    is_false : (b : Bool) → Decides (not b) (b ≡ false)
    is_false true = ((λ e. never e), λ e. sym e)
    is_false false = ((λ _. refl), λ _. refl)

-- L has the entries of m, and all but v, the dead edges and the dead faces is in order; a edges and b faces are dead
pub record Ready (m L : Links) (v : ℕ) (edge face : ℕ → Bool) (a b : ℕ) : Type 0 where
  pub n : L.n ≡ m.n
  pub at : (w : ℕ) → place L w ≡ place m w
  pub outer : face 0 ≡ false
  pub linked : Linked L (Others L.n v) (Staying L.e edge) (Staying L.f face)
  pub shaped : Shaped L (Others L.n v) (Staying L.e edge)
  pub edges : number edge L.e ≡ a
  pub faces : number face L.f ≡ b

-- where a face is, there are two entries
two_left : (K : Links) → AllLinked K → 0 < K.f → 2 ≤ K.n
two_left K J f =
    let h = K.adj 0 in
    let l = J.adj_live 0 f in
    different (K.origin h) (to K h) (J.origin_live h l) (J.origin_live _ (rev_live (λ k. k < K.e) h l)) (J.ends h l)
  where
    different : (a b : ℕ) → a < K.n → b < K.n → ¬ (a ≡ b) → 2 ≤ K.n
    different a b p q d = omega arith

-- where k records are left of l, and a are dead
fewer : (k a m l : ℕ) → k + a ≡ l → l ≤ m + a → k ≤ m
fewer k a m l p q = omega arith

module _ (m L : Links) (v : ℕ) (edge face : ℕ → Bool) (a b : ℕ) (sd : Sound m) (vl : v < m.n) (Q : Ready m L v edge face a b) where
  -- what is left
  abbrev K : Links
  K = swap_remove_entry v (cleanup edge face L)

  v_in : v < L.n
  v_in = omega (arith, Q.n)

  unrooted : Unrooted L (Others L.n v) (Staying L.e edge) (Staying L.f face)
  unrooted = unroot L (Others L.n v) (Staying L.e edge) (Staying L.f face) L.e (λ k t. t.0) Q.linked

  renumbered : Renumbered L K (Others L.n v) (Staying L.e edge) (Staying L.f face) (λ w. w < K.n) (λ k. k < K.e) (λ g. g < K.f)
  renumbered = (cleans L v edge face v_in Q.outer Q.linked Q.shaped.three).0

  pub linked_left : AllLinked K
  linked_left = root K (λ w. w < K.n) (λ k. k < K.e) (λ g. g < K.f) (unrooted_after renumbered unrooted)

  pub shaped_left : Shaped K (λ w. w < K.n) (λ k. k < K.e)
  shaped_left = shaped_after renumbered unrooted Q.shaped

  pub ruled_left : Ruled L (Others L.n v) (Staying L.e edge) → Ruled K (λ w. w < K.n) (λ k. k < K.e)
  ruled_left = ruled_after renumbered unrooted

  -- the counts
  pub entries_left : suc K.n ≡ m.n
  entries_left = (cleans L v edge face v_in Q.outer Q.linked Q.shaped.three).1 ∙ Q.n

  pub edges_left : K.e + a ≡ L.e
  edges_left = ap (λ x. K.e + x) (sym Q.edges) ∙ (cleans L v edge face v_in Q.outer Q.linked Q.shaped.three).2

  pub faces_left : K.f + b ≡ L.f
  faces_left = ap (λ x. K.f + x) (sym Q.faces) ∙ (cleans L v edge face v_in Q.outer Q.linked Q.shaped.three).3

  -- the last entry has the place of v
  pub places_left : LastAt m v K
  places_left w l =
      (cleans L v edge face v_in Q.outer Q.linked Q.shaped.three).4 w l ∙ Q.at _ ∙ ap (λ n. place m (cond (eqb w v) (pred n) w)) Q.n

  -- with an inner face it is sound, if the counts are right
  pub sound_left : L.e ≤ m.e + a → L.f ≤ m.f + b → suc b < L.f → m.n + L.f + a ≡ L.e + b + 3 → Sound K
  sound_left e f f1 euler =
      finish m K v sd vl entries_left (fewer K.e a m.e L.e edges_left e) (fewer K.f b m.f L.f faces_left f) (more K.f faces_left)
      (two_left K linked_left (some K.f faces_left)) (balance K.n K.e K.f entries_left edges_left faces_left) places_left linked_left shaped_left
    where
      more : (f : ℕ) → f + b ≡ L.f → 1 < f
      more f q = omega arith

      some : (f : ℕ) → f + b ≡ L.f → 0 < f
      some f q = omega arith

      balance : (n e f : ℕ) → suc n ≡ m.n → e + a ≡ L.e → f + b ≡ L.f → n + f ≡ e + 2
      balance n e f p q r = omega arith

  -- without one, if rule 6 held
  pub line_left : L.e ≤ m.e + a → L.f ≡ suc b → m.n + a ≡ L.e + 2 → Ruled L (Others L.n v) (Staying L.e edge) → Sound K
  line_left e f1 euler G =
      finish_line m K v sd vl entries_left (fewer K.e a m.e L.e edges_left e) (two_left K linked_left (some K.f faces_left)) (one K.f faces_left)
      (balance K.n K.e entries_left edges_left) places_left linked_left (ruled_left G) shaped_left.right
    where
      one : (f : ℕ) → f + b ≡ L.f → f ≡ 1
      one f q = omega arith

      some : (f : ℕ) → f + b ≡ L.f → 0 < f
      some f q = omega arith

      balance : (n e : ℕ) → suc n ≡ m.n → e + a ≡ L.e → n ≡ e + 1
      balance n e p q = omega arith
