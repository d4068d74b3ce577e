use Rattle.std.proofs.Common.{◌≡◌, [], ◌∷◌, ◌++◌, drop, length, w64, ◌∙◌, sym, arith, le-ltb, nat_lt, false}
use Rattle.std.specs.Int.{from_be_bytes}
use Rattle.entry.specs.Naming.{has_zero_byte, packed}
use Rattle.entry.proofs.ZeroBytes.{zero_found, with_zeros}
use Rattle.entry.proofs.name.pack_name.Goals as goal

pub returns : goal.returns
returns c =
    let bs = c.args.text.now in
    let h : c.pack.result ≡ from_be_bytes w64 (c.copy_from_slice.new.self ++ drop (length bs) (0 ∷ 0 ∷ 0 ∷ 0 ∷ 0 ∷ 0 ∷ 0 ∷ 0 ∷ [])) = c.pack.ensures in
    let e : c.pack.result ≡ packed bs = rw c.copy_from_slice.ensures.after at h ∙ with_zeros bs (omega arith) in
    let z : has_zero_byte bs ≡ false = sym (zero_found bs) ∙ sym c.contains.ensures.value ∙ c.if-contains.false in
    let l : nat_lt 8 (length bs) ≡ false = le-ltb 8 (length bs) (omega arith) in
    rw (l, z, e)
