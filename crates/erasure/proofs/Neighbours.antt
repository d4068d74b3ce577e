-- Neighbours on a ring, as a test and as a fact.
use Rattle.std.proofs.Common.{ℕ, suc, Decides, inl, inr}
use Rattle.links.proofs.Decide.{dec_eq, dec_and, dec_or}
use Rattle.delaunay.specs.Ring.{Next}
use Rattle.delaunay.specs.Mesh.{Mesh}
use Rattle.erasure.specs.Inside.{next_on}

pub dec_next : (k a b : ℕ) → Decides (next_on k a b) (Next k a b)
dec_next k a b = dec_or (dec_eq (suc a) b) (dec_and (dec_eq (suc a) k) (dec_eq b 0))

-- a mesh whose border is said in other words
pub with_border : (Live : ℕ → Type 0) (nx tw lab : ℕ → ℕ) (k : ℕ) (Edge Edge' : ℕ → ℕ → Type 0) → ((a b : ℕ) → Edge a b → Edge' a b)
    → Mesh ℕ Live nx tw lab k Edge → Mesh ℕ Live nx tw lab k Edge'
with_border Live nx tw lab k Edge Edge' f g = record {
  stays = g.stays;
  three = g.three;
  back = g.back;
  order = g.order;
  over = λ h l. elim (g.over h l) [ inl x ↦ inl (f _ _ x) | inr x ↦ inr x ];
}
