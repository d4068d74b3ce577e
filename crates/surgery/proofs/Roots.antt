-- The link rules without roots: halves of one entry, and of one face, reach each other.
use Rattle.std.proofs.Common.{◌≡◌, ℕ, ◌*◌, ◌/◌, ◌<◌, ◌≢◌, sym, refl, ap, ◌∙◌, arith}
use Rattle.links.specs.Links.{Links, rev, to, ccw}
use Rattle.links.proofs.Halves.{rev_rev}
use Rattle.surgery.specs.Linked.{Linked}
use Rattle.surgery.proofs.Cycles.{Conn, rootless, reach_in, reach_out}
use Rattle.surgery.proofs.Updates.{rev_live}

abbrev pub Half : (ℕ → Type 0) → ℕ → Type 0
Half E h = E (h / 2)

pub record Unrooted (L : Links) (V E F : ℕ → Type 0) : Type 0 where
  pub out_live : (v : ℕ) → V v → E (L.out v / 2)
  pub next_live : (h : ℕ) → E (h / 2) → E (L.next h / 2)
  pub prev_live : (h : ℕ) → E (h / 2) → E (L.prev h / 2)
  pub face_live : (h : ℕ) → E (h / 2) → F (L.face h)
  pub origin_live : (h : ℕ) → E (h / 2) → V (L.origin h)
  pub adj_live : (g : ℕ) → F g → E (L.adj g / 2)
  pub prev_next : (h : ℕ) → E (h / 2) → L.prev (L.next h) ≡ h
  pub next_prev : (h : ℕ) → E (h / 2) → L.next (L.prev h) ≡ h
  pub face_next : (h : ℕ) → E (h / 2) → L.face (L.next h) ≡ L.face h
  pub to_next : (h : ℕ) → E (h / 2) → L.origin (L.next h) ≡ to L h
  pub out_origin : (v : ℕ) → V v → L.origin (L.out v) ≡ v
  pub spin : Conn (ccw L) L.origin (Half E)
  pub adj_face : (g : ℕ) → F g → L.face (L.adj g) ≡ g
  pub turn : Conn L.next L.face (Half E)
  pub sides : (g h : ℕ) → F g → g ≢ 0 → E (h / 2) → L.face h ≢ L.face (rev h)
  pub ends : (h : ℕ) → E (h / 2) → L.origin h ≢ to L h

pub root : (L : Links) (V E F : ℕ → Type 0) → Unrooted L V E F → Linked L V E F
root L V E F W = record {
  out_live = W.out_live;
  next_live = W.next_live;
  prev_live = W.prev_live;
  face_live = W.face_live;
  origin_live = W.origin_live;
  adj_live = W.adj_live;
  prev_next = W.prev_next;
  next_prev = W.next_prev;
  face_next = W.face_next;
  to_next = W.to_next;
  out_origin = W.out_origin;
  around = λ v h lv lh e. reach_out _ _ _ (W.spin (L.out v) h (W.out_live v lv) lh (W.out_origin v lv ∙ sym e));
  adj_face = W.adj_face;
  along = λ g h lg lh e. reach_out _ _ _ (W.turn (L.adj g) h (W.adj_live g lg) lh (W.adj_face g lg ∙ sym e));
  sides = W.sides;
  ends = W.ends;
}

-- the edges that live are below some number m
pub unroot : (L : Links) (V E F : ℕ → Type 0) (m : ℕ) → ((k : ℕ) → E k → k < m) → Linked L V E F → Unrooted L V E F
unroot L V E F m low J = record {
  out_live = J.out_live;
  next_live = J.next_live;
  prev_live = J.prev_live;
  face_live = J.face_live;
  origin_live = J.origin_live;
  adj_live = J.adj_live;
  prev_next = J.prev_next;
  next_prev = J.next_prev;
  face_next = J.face_next;
  to_next = J.to_next;
  out_origin = J.out_origin;
  spin = rootless (ccw L) L.origin L.out (Half E) (2 * m)
      (record {
        keeps = λ h l. rev_live E _ (J.prev_live h l);
        low = below;
        inj = λ h k lh lk e. sym (J.next_prev h lh) ∙ ap L.next (sym (rev_rev _) ∙ ap rev e ∙ rev_rev _) ∙ J.next_prev k lk;
      })
      (λ h l. (J.out_live _ (J.origin_live h l), reach_in _ _ _ (J.around _ h (J.origin_live h l) l refl)));
  adj_face = J.adj_face;
  turn = rootless L.next L.face L.adj (Half E) (2 * m)
      (record {
        keeps = J.next_live;
        low = below;
        inj = λ h k lh lk e. sym (J.prev_next h lh) ∙ ap L.prev e ∙ J.prev_next k lk;
      })
      (λ h l. (J.adj_live _ (J.face_live h l), reach_in _ _ _ (J.along _ h (J.face_live h l) l refl)));
  sides = J.sides;
  ends = J.ends;
}
  where
    below : (h : ℕ) → E (h / 2) → h < 2 * m
    below h l = let b = low (h / 2) l in omega arith
