-- What the two writes of a filling do: an ear is cut off, and the last triangle gets its number.
use Rattle.std.proofs.Common.{◌≡◌, ℕ, ◌+◌, ◌*◌, ◌/◌, ◌<◌, ◌≢◌, sym, refl, ap, ◌∙◌, subst, arith}
use mathlib.Core.Path.{subst₃}
use Rattle.links.specs.Links.{Links, rev}
use Rattle.links.proofs.Halves.{rev_even}
use Rattle.delaunay.specs.Start.{Eared}
use Rattle.surgery.specs.Update.{upd}
use Rattle.surgery.specs.Fan.{cut_ear}
use Rattle.surgery.proofs.Updates.{upd_same, skip, cases_to}
use Rattle.surgery.proofs.Roots.{Unrooted, Half}
use Rattle.erasure.specs.Fill.{last_triangle}

-- by entries in place of numbers on a ring
abbrev EarOf : Links → ℕ → ℕ → ℕ → ℕ → ℕ → Type 0
EarOf L i x o p n = Eared ℕ (2 * x) (2 * x + 1) i o p n L.next (cut_ear L i).next rev L.origin (cut_ear L i).origin

-- a half that is no end of an ear keeps its links
ear_here : (L : Links) (i : ℕ) → L.next (L.prev i) ≡ i → L.next i ≢ L.prev i → L.next i < 2 * L.e → L.prev i < 2 * L.e
    → EarOf L i L.e (L.next i) (L.prev i) (L.next (L.next i))
unfolding cut_ear
ear_here L i back apart lo lp = record {
  twin = rev_even L.e;
  at_i = refl;
  at_o = refl;
  at_p = back;
  next_o = skip _ p t o e apart (skip _ t n o e (omega arith) (skip _ e i o e (omega arith) (upd_same _ o e)));
  next_e = skip _ p t e i (omega arith) (skip _ t n e i (omega arith) (upd_same _ e i));
  next_p = upd_same _ p t;
  next_t = skip _ p t t n (omega arith) (upd_same _ t n);
  next_else = λ h no ne np nt. skip _ p t h _ np (skip _ t n h _ nt (skip _ e i h _ ne (skip _ o e h _ no refl)));
  lab_e = skip _ t _ e _ (omega arith) (upd_same _ e _);
  lab_t = upd_same _ t _;
  lab_else = λ h ne nt. skip _ t _ h _ nt (skip _ e _ h _ ne refl);
}
  where
    e : ℕ
    e = 2 * L.e

    t : ℕ
    t = 2 * L.e + 1

    o : ℕ
    o = L.next i

    p : ℕ
    p = L.prev i

    n : ℕ
    n = L.next o

-- the same with names for what it joins
pub ear_cut : (L : Links) (i x o p n : ℕ) → L.e ≡ x → L.next i ≡ o → L.prev i ≡ p → L.next o ≡ n → L.next p ≡ i → o ≢ p → o < 2 * x → p < 2 * x
    → Eared ℕ (2 * x) (2 * x + 1) i o p n L.next (cut_ear L i).next rev L.origin (cut_ear L i).origin
ear_cut L i x o p n ex eo ep en back apart lo lp =
    subst (λ x. EarOf L i x o p n) ex (subst₃ (EarOf L i L.e) eo ep (ap L.next eo ∙ en)
    (ear_here L i (ap L.next ep ∙ back) (λ q. apart (sym eo ∙ q ∙ ep)) (omega arith) (omega arith)))

-- its roots aside, the last triangle changes nothing
pub last_unrooted : (L : Links) (V E F : ℕ → Type 0) (i : ℕ) → E (i / 2) → Unrooted L V E F → Unrooted (last_triangle L i) V E F
unfolding last_triangle
last_unrooted L V E F i li W = record {
  out_live = λ v. cases_to (λ v. V v → E (upd L.out (L.origin i) i v / 2)) (L.origin i) v (λ _. subst (Half E) (sym (upd_same _ _ i)) li)
      (λ d l. subst (Half E) (sym (skip _ _ i v _ d refl)) (W.out_live v l));
  next_live = W.next_live;
  prev_live = W.prev_live;
  face_live = W.face_live;
  origin_live = W.origin_live;
  adj_live = λ g. cases_to (λ g. F g → E (upd L.adj (L.face i) i g / 2)) (L.face i) g (λ _. subst (Half E) (sym (upd_same _ _ i)) li)
      (λ d l. subst (Half E) (sym (skip _ _ i g _ d refl)) (W.adj_live g l));
  prev_next = W.prev_next;
  next_prev = W.next_prev;
  face_next = W.face_next;
  to_next = W.to_next;
  out_origin = λ v. cases_to (λ v. V v → L.origin (upd L.out (L.origin i) i v) ≡ v) (L.origin i) v (λ _. ap L.origin (upd_same _ _ i))
      (λ d l. ap L.origin (skip _ _ i v _ d refl) ∙ W.out_origin v l);
  spin = W.spin;
  adj_face = λ g. cases_to (λ g. F g → L.face (upd L.adj (L.face i) i g) ≡ g) (L.face i) g (λ _. ap L.face (upd_same _ _ i))
      (λ d l. ap L.face (skip _ _ i g _ d refl) ∙ W.adj_face g l);
  turn = W.turn;
  sides = W.sides;
  ends = W.ends;
}
