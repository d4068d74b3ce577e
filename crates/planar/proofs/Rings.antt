-- The spokes of an entry, one after another.
use mathlib.Core.Path.{◌≡◌, refl, sym, ◌∙◌, ap, subst}
use Prim.Native.Nat.{ℕ, zero, suc, ◌+◌, ◌-◌, ◌<◌}
use native.Mathlib.Omega.{arith}
use native.Mathlib.Decide.{ℕ_discrete, dec_lt}
use native.Mathlib.Nat.{not-suc-le-zero}
use Rattle.links.specs.Links.{Links, rev, halves, cw, ccw, walk, Reached}
use Rattle.links.proofs.Halves.{rev_rev, rev_below}
use Rattle.links.proofs.Walks.{walk_add, walk_in, least, pigeons, soon as walks_soon}
use Rattle.planar.specs.Star.{Cycle, spoke, Ring, Rings, Borders, Soon}
use Rattle.planar.proofs.Faces.{two}
use Rattle.planar.proofs.Views.{Ranges, Weave, ranges, weave}

-- ---- walks
pub walk_shift : (step : ℕ → ℕ) (i s : ℕ) → walk step (suc i) s ≡ walk step i (step s)
walk_shift step zero s = refl
walk_shift step (suc i) s = ap step (walk_shift step i s)

-- ---- a step that can be undone
module _ (H : ℕ) (step back : ℕ → ℕ) (step_in : (h : ℕ) → h < H → step h < H) (back_in : (h : ℕ) → h < H → back h < H)
    (back_step : (h : ℕ) → h < H → back (step h) ≡ h) (step_back : (h : ℕ) → h < H → step (back h) ≡ h) where
  step_only : (a b : ℕ) → a < H → b < H → step a ≡ step b → a ≡ b
  step_only a b la lb e = sym (back_step a la) ∙ ap back e ∙ back_step b lb

  walk_only : (i a b : ℕ) → a < H → b < H → walk step i a ≡ walk step i b → a ≡ b
  walk_only zero a b la lb e = e
  walk_only (suc i) a b la lb e = walk_only i a b la lb (step_only (walk step i a) (walk step i b) (walk_in H step step_in a la i) (walk_in H step step_in b lb i) e)

  home : (a j : ℕ) → walk step (suc j) a ≡ a → (i : ℕ) → Reached step (walk step i a) a
  home a j e zero = (0, refl)
  home a j e (suc i) = go (home a j e i)
    where
      go : Reached step (walk step i a) a → Reached step (step (walk step i a)) a
      go (zero, q) = (j, ap (λ z. walk step j (step z)) q ∙ sym (walk_shift step j a) ∙ e)
      go (suc b, q) = (b, sym (walk_shift step b (walk step i a)) ∙ q)

  -- a kind of numbers that are all reached from one of them, a, and that no step back leaves: they are a cycle from each of them
  module _ (Kind : ℕ → Type 0) (kind_back : (h : ℕ) → h < H → Kind h → Kind (back h)) (a : ℕ) (al : a < H) (ak : Kind a) (reach : (h : ℕ) → h < H → Kind h → Reached step a h) where
    any : (s g : ℕ) → s < H → g < H → Kind s → Kind g → Reached step s g
    any s g ls lg ks kg =
        let c = reach (back a) (back_in a al) (kind_back a al ak) in
        let r = reach s ls ks in
        let b = home a c.0 (ap step c.1 ∙ step_back a al) r.0 in
        let b' = subst (λ z. walk step b.0 z ≡ a) r.1 b.1 in
        let q = reach g lg kg in
        (q.0 + b.0, walk_add step q.0 b.0 s ∙ ap (λ z. walk step q.0 z) b' ∙ q.1)

    pub cycle_of : (s : ℕ) → s < H → Kind s → (size : ℕ) × Cycle H step Kind s size
    cycle_of s l ks =
        let r = any s (back s) l (back_in s l) ks (kind_back s l ks) in
        make (least (λ i. walk step (suc i) s ≡ s) (λ i. ℕ_discrete (walk step (suc i) s) s) r.0 (ap step r.1 ∙ step_back s l))
      where
        make : (i : ℕ) × (walk step (suc i) s ≡ s) × ((d : ℕ) → d < i → ¬ (walk step (suc d) s ≡ s)) → (size : ℕ) × Cycle H step Kind s size
        make (n, e, none_less) = (suc n, record { some = omega arith; few = pigeons H (suc n) (λ i. walk step i s) (λ i p. walk_in H step step_in s l i) apart; closed = e; apart = apart; every = every })
          where
            apart : (i j : ℕ) → i < j → j < suc n → ¬ (walk step i s ≡ walk step j s)
            apart i j h b q =
                none_less (j - suc i) (omega arith)
                (sym (walk_only i s (walk step (suc (j - suc i)) s) l (walk_in H step step_in s l (suc (j - suc i))) (q ∙ ap (λ z. walk step z s) (split i j h) ∙ walk_add step i (suc (j - suc i)) s)))
              where
                split : (i j : ℕ) → i < j → j ≡ i + suc (j - suc i)
                split i j h = omega arith

            reduce : (fuel j : ℕ) → j < fuel → (i : ℕ) × (i < suc n) × (walk step i s ≡ walk step j s)
            reduce zero j h = absurd (not-suc-le-zero h)
            reduce (suc fuel) j h = go (dec_lt j (suc n)) (reduce fuel (j - suc n))
              where
                back_by : (j : ℕ) → ¬ (j < suc n) → j ≡ (j - suc n) + suc n
                back_by j d = omega arith

                go : Dec (j < suc n) → (j - suc n < fuel → (i : ℕ) × (i < suc n) × (walk step i s ≡ walk step (j - suc n) s)) → (i : ℕ) × (i < suc n) × (walk step i s ≡ walk step j s)
                go (yes b) again = (j, b, refl)
                go (no d) again =
                    let r = again (omega arith) in
                    (r.0, r.1, r.2 ∙ sym (ap (λ z. walk step z s) (back_by j d) ∙ walk_add step (j - suc n) (suc n) s ∙ ap (λ z. walk step (j - suc n) z) e))

            every : (h : ℕ) → h < H → Kind h → (i : ℕ) × (i < suc n) × (walk step i s ≡ h)
            every h hl q =
                let r = any s h l hl ks q in
                let i = reduce (suc r.0) r.0 (omega arith) in
                (i.0, i.1, i.2 ∙ r.1)

-- ---- rotation, and the way along a face
module _ (m : Links) (r3 : Ranges m) (r4 : Weave m) where
  pub ccw_in : (h : ℕ) → h < halves m → ccw m h < halves m
  ccw_in h l = rev_below m.e (m.prev h) (r3.prev_names h l)

  pub cw_in : (h : ℕ) → h < halves m → cw m h < halves m
  cw_in h l = r3.next_names (rev h) (rev_below m.e h l)

  pub ccw_origin : (h : ℕ) → h < halves m → m.origin (ccw m h) ≡ m.origin h
  ccw_origin h l = r4.joins (m.prev h) (r3.prev_names h l) ∙ ap m.origin (r4.undone h l).1

  pub cw_origin : (h : ℕ) → h < halves m → m.origin (cw m h) ≡ m.origin h
  cw_origin h l = sym (r4.joins (rev h) (rev_below m.e h l)) ∙ ap m.origin (rev_rev h)

  pub cw_ccw : (h : ℕ) → h < halves m → cw m (ccw m h) ≡ h
  cw_ccw h l = ap m.next (rev_rev (m.prev h)) ∙ (r4.undone h l).1

  pub ccw_cw : (h : ℕ) → h < halves m → ccw m (cw m h) ≡ h
  ccw_cw h l = ap rev (r4.undone (rev h) (rev_below m.e h l)).0 ∙ rev_rev h

  pub spoke_in : (s : ℕ) → s < halves m → (i : ℕ) → spoke m s i < halves m
  spoke_in = walk_in (halves m) (ccw m) ccw_in

  pub spoke_origin : (s : ℕ) → s < halves m → (i : ℕ) → m.origin (spoke m s i) ≡ m.origin s
  spoke_origin s l zero = refl
  spoke_origin s l (suc i) = ccw_origin (spoke m s i) (spoke_in s l i) ∙ spoke_origin s l i

  pub ccw_only : (a b : ℕ) → a < halves m → b < halves m → ccw m a ≡ ccw m b → a ≡ b
  ccw_only = step_only (halves m) (ccw m) (cw m) ccw_in cw_in cw_ccw ccw_cw

  out_from_origin : (s h : ℕ) → h < halves m → m.origin h ≡ m.origin s → Reached (ccw m) (m.out (m.origin s)) h
  out_from_origin s h l e = subst (λ z. Reached (ccw m) (m.out z) h) e (r4.out_cycle h l)

  ring_of : (s t : ℕ) → s < halves m → t < halves m → m.origin t ≡ m.origin s → (size : ℕ) × Cycle (halves m) (ccw m) (λ h. m.origin h ≡ m.origin s) t size
  ring_of s t l tl e =
      let n2 = two m r3 r4 s l in
      let vl = r3.origin_names s l in
      cycle_of (halves m) (ccw m) (cw m) ccw_in cw_in cw_ccw ccw_cw (λ h. m.origin h ≡ m.origin s) (λ h hl e. cw_origin h hl ∙ e)
      (m.out (m.origin s)) (r3.out_in (m.origin s) vl n2) (r4.out_at (m.origin s) vl n2) (out_from_origin s) t tl e

  prev_face : (h : ℕ) → h < halves m → m.face (m.prev h) ≡ m.face h
  prev_face h l = sym (r4.shares (m.prev h) (r3.prev_names h l)) ∙ ap m.face (r4.undone h l).1

  border_of : (s t : ℕ) → s < halves m → t < halves m → m.face t ≡ m.face s → (size : ℕ) × Cycle (halves m) m.next (λ h. m.face h ≡ m.face s) t size
  border_of s t l tl e =
      let n2 = two m r3 r4 s l in
      let fl = r3.face_names s l in
      cycle_of (halves m) m.next m.prev r3.next_names r3.prev_names (λ h hl. (r4.undone h hl).0) (λ h hl. (r4.undone h hl).1) (λ h. m.face h ≡ m.face s) (λ h hl e. prev_face h hl ∙ e)
      (m.adj (m.face s)) (r3.adj_in (m.face s) fl n2) (r4.adj_at (m.face s) fl n2) (λ h hl e. subst (λ z. Reached m.next (m.adj z) h) e (r4.adj_cycle h hl)) t tl e

  pub ring_at : (s : ℕ) → s < halves m → (size : ℕ) × Ring m s size
  ring_at s l = ring_of s s l l refl

pub rings : Rings
rings m r w = ring_at m (ranges m r) (weave m r w)

pub borders : Borders
borders m r w s l = border_of m (ranges m r) (weave m r w) s s l l refl

pub soon : Soon
soon m r w h l =
    let r3 = ranges m r in
    let r4 = weave m r w in
    let n2 = two m r3 r4 h l in (
      walks_soon (halves m) (ccw m) (ccw_in m r3 r4) (m.out (m.origin h)) h (r3.out_in (m.origin h) (r3.origin_names h l) n2) (r4.out_cycle h l),
      walks_soon (halves m) m.next r3.next_names (m.adj (m.face h)) h (r3.adj_in (m.face h) (r3.face_names h l) n2) (r4.adj_cycle h l),
    )
