-- The operations keep the link rules; and those are rules 3 and 4 where all below the counts lives.
use Rattle.std.proofs.Common.{◌≡◌, ℕ, suc, ◌*◌, ◌/◌, ◌<◌, ◌≢◌, sym, refl, ap, ◌∙◌, arith}
use Rattle.links.specs.Links.{Links, none, rev}
use Rattle.links.proofs.Halves.{rev_even}
use Rattle.links.proofs.Decide.{is_true}
use Rattle.planar.proofs.Views.{Ranges, Weave, ranges, weave, parted_halves}
use Rattle.surgery.specs.Linked.{Linked}
use Rattle.surgery.specs.Update.{flip}
use Rattle.surgery.specs.Theorems.{On, Carries, Flips, Cuts, FanSteps, Straightens, Renumbers, MovesEdge, MovesFace, MovesEntry, AllLive, AllLiveBack, LiveLinked}
use Rattle.surgery.proofs.Cycles.{carry, reach_in, reach_out}
use Rattle.surgery.proofs.Roots.{unroot, root}
use Rattle.surgery.proofs.Flip.{quad, flipped}
use Rattle.surgery.proofs.Keeps.{keeps}
use Rattle.surgery.proofs.Renaming.{renamed}
use Rattle.surgery.proofs.MoveEdge.{moved_edge}
use Rattle.surgery.proofs.MoveOne.{moved_face, moved_entry}
use Rattle.surgery.proofs.Hole.{cut}
use Rattle.surgery.proofs.FanStep.{fan_step}
use Rattle.surgery.proofs.Straight.{straight}

pub carries : Carries
carries s o s' o' f g P P' conn keeps steps lead trail h k ph pk e =
    reach_out s' h k
    (carry s o s' o' f g (On P) (On P') (λ h k ph pk e. reach_in s h k (conn h k ph pk e)) keeps (λ x p. reach_in s' (f x) (f (s x)) (steps x p))
    (λ h p. let l = lead h p in (l.0, (l.1.0, l.1.1, reach_in s' h (f l.0) l.1.2)))
    (λ k p. let t = trail k p in (t.0, (t.1.0, t.1.1, reach_in s' (f t.0) k t.1.2))) h k ph pk e)

-- over any predicates
pub flip_linked : (L : Links) (V E F : ℕ → Type 0) (m e : ℕ) → ((k : ℕ) → E k → k < m) → Linked L V E F → E (e / 2)
    → L.next (L.next e) ≡ L.prev e → L.next (L.next (rev e)) ≡ L.prev (rev e)
    → L.face e ≢ L.face (rev e) → L.origin (L.prev e) ≢ L.origin (L.prev (rev e))
    → Linked (flip L e) V E F
flip_linked L V E F m e low J l three three' faces corners =
    let W = unroot L V E F m low J in
    let Q = quad L V E F e W l three three' faces corners in
    root _ V E F (keeps L _ V E F e _ _ _ _ _ W Q (flipped L E e Q (J.ends e l)))

pub flips : Flips
flips L V E F = flip_linked L (On V) (On E) (On F)

pub cuts : Cuts
cuts L L' V E F V' E' F' m v hole star spoke low c J =
    root L' (On V') (On E') (On F') (cut L L' (On V) (On E) (On F) (On V') (On E') (On F') v hole star spoke c (unroot L (On V) (On E) (On F) m low J))

pub fan_steps : FanSteps
fan_steps L V E F m i low dead dead_f li inner wide J = root _ _ _ _ (fan_step L (On V) (On E) (On F) i dead dead_f li inner wide (unroot L (On V) (On E) (On F) m low J))

pub straightens : Straightens
straightens L L' V E F V' E' m v e1 t1 e2 r2 a y A Y low s J =
    root L' (On V') (On E') (On F) (straight L L' (On V) (On E) (On F) (On V') (On E') v e1 t1 e2 r2 a y A Y s (unroot L (On V) (On E) (On F) m low J))

pub renumbers : Renumbers
renumbers L L' V E F V' E' F' m pv qv ph qh pf qf low r J =
    root L' (On V') (On E') (On F') (renamed L L' (On V) (On E) (On F) (On V') (On E') (On F') pv qv ph qh pf qf r (unroot L (On V) (On E) (On F) m low J))

pub moves_edge : MovesEdge
moves_edge L V E F m d low J lm dead = root _ _ _ _ (moved_edge L (On V) (On E) (On F) m d lm dead (unroot L (On V) (On E) (On F) (suc m) (λ k l. omega (arith, low k l)) J))

pub moves_face : MovesFace
moves_face L V E F u m d low J lm m0 dead three = root _ _ _ _ (moved_face L (On V) (On E) (On F) m d lm m0 dead three (unroot L (On V) (On E) (On F) u low J))

pub moves_entry : MovesEntry
moves_entry L V E F u m d low J lm dead = root _ _ _ _ (moved_entry L (On V) (On E) (On F) m d lm dead (unroot L (On V) (On E) (On F) u low J))

-- ---- rules 3 and 4
in_halves : (h e : ℕ) → h / 2 < e → h < 2 * e
in_halves h e l = omega arith

in_edges : (h e : ℕ) → h < 2 * e → h / 2 < e
in_edges h e l = omega arith

pub all_live : AllLive
all_live m two r w p = record {
  out_live = λ v l. in_edges (m.out v) m.e (a.out_in v l two);
  next_live = λ h l. in_edges (m.next h) m.e (a.next_names h (in_halves h m.e l));
  prev_live = λ h l. in_edges (m.prev h) m.e (a.prev_names h (in_halves h m.e l));
  face_live = λ h l. a.face_names h (in_halves h m.e l);
  origin_live = λ h l. a.origin_names h (in_halves h m.e l);
  adj_live = λ g l. in_edges (m.adj g) m.e (a.adj_in g l two);
  prev_next = λ h l. (w.undone h (in_halves h m.e l)).0;
  next_prev = λ h l. (w.undone h (in_halves h m.e l)).1;
  face_next = λ h l. w.shared h (in_halves h m.e l);
  to_next = λ h l. sym (w.joined h (in_halves h m.e l));
  out_origin = λ v l. b.out_at v l two;
  around = λ v h lv lh e. ((w.around v lv).1 h (in_halves h m.e lh) e).1;
  adj_face = λ g l. b.adj_at g l two;
  along = λ g h lg lh e. ((w.along g lg).1 h (in_halves h m.e lh) e).1;
  sides = λ g h lg n l. parted_halves m p (omega arith) h (in_halves h m.e l);
  ends = λ h l. b.ends h (in_halves h m.e l);
}
  where
    a : Ranges m
    a = ranges m r

    b : Weave m
    b = weave m r w

pub all_live_back : AllLiveBack
all_live_back m two small j = (
  record {
    out_named = λ v l _. in_halves (m.out v) m.e (j.out_live v l);
    half_named = λ h l. let k = in_edges h m.e l in (in_halves (m.next h) m.e (j.next_live h k), in_halves (m.prev h) m.e (j.prev_live h k), j.face_live h k, j.origin_live h k);
    adj_named = λ g l _. in_halves (m.adj g) m.e (j.adj_live g l);
    out_rooted = λ v l. ((λ _. two), λ _. there (m.out v) (j.out_live v l));
    adj_rooted = λ g l. ((λ _. two), λ _. there (m.adj g) (j.adj_live g l));
  },
  record {
    undone = λ h l. (j.prev_next h (in_edges h m.e l), j.next_prev h (in_edges h m.e l));
    shared = λ h l. j.face_next h (in_edges h m.e l);
    joined = λ h l. sym (j.to_next h (in_edges h m.e l));
    around = λ v l. ((λ _. j.out_origin v l), λ h b e. (there (m.out v) (j.out_live v l), j.around v h l (in_edges h m.e b) e));
    along = λ g l. ((λ _. j.adj_face g l), λ h b e. (there (m.adj g) (j.adj_live g l), j.along g h l (in_edges h m.e b) e));
    ended = λ k l e. j.ends (2 * k) (in_edges (2 * k) m.e (omega arith)) (e ∙ ap m.origin (sym (rev_even k)));
  },
  (λ k l f1 e. j.sides 1 (2 * k) f1 (λ z. absurd (no_one z)) (in_edges (2 * k) m.e (omega arith)) (e ∙ ap m.face (sym (rev_even k)))),
)
  where
    there : (h : ℕ) → h / 2 < m.e → h ≢ none
    there h l = omega arith

    one : ℕ
    one = 1

    no_one : one ≡ 0 → ⊥
    no_one e = omega arith

pub live_linked : LiveLinked
live_linked L V E F j = record {
  undone = λ h l. (j.prev_next h (is_true (E (h / 2)) l), j.next_prev h (is_true (E (h / 2)) l));
  shares = λ h l. j.face_next h (is_true (E (h / 2)) l);
  joins = λ h l. sym (j.to_next h (is_true (E (h / 2)) l));
  out_at = λ v l. j.out_origin v (is_true (V v) l);
  out_cycle = λ h l. j.around (L.origin h) h (j.origin_live h (is_true (E (h / 2)) l)) (is_true (E (h / 2)) l) refl;
  adj_at = λ k l. j.adj_face k (is_true (F k) l);
  adj_cycle = λ h l. j.along (L.face h) h (j.face_live h (is_true (E (h / 2)) l)) (is_true (E (h / 2)) l) refl;
  ends = λ h l. j.ends h (is_true (E (h / 2)) l);
}
