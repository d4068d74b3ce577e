-- Names of up to eight bytes, as numbers of 64 bits.
use Rattle.std.specs.Prelude.{ℕ, ◌+◌, ◌*◌, Bool, false, cond, ◌||◌, List, [], ◌∷◌, length, Some, None, Option, ◌==◌, nat_lt, slice_index}

-- whether some byte is 0
abbrev pub has_zero_byte : List ℕ → Bool
has_zero_byte [] = false
has_zero_byte (b ∷ bs) = b == 0 || has_zero_byte bs

-- the first eight bytes as one number, the first highest; 0 past the end
abbrev pub packed : List ℕ → ℕ
packed bs =
    slice_index bs 0 * 72057594037927936 + slice_index bs 1 * 281474976710656 + slice_index bs 2 * 1099511627776 + slice_index bs 3 * 4294967296
    + slice_index bs 4 * 16777216 + slice_index bs 5 * 65536 + slice_index bs 6 * 256 + slice_index bs 7

-- the name that a text packs to: none if it has more than eight bytes, or a 0 among them
abbrev pub packed_name : List ℕ → Option ℕ
packed_name bs = cond (nat_lt 8 (length bs)) None (cond (has_zero_byte bs) None (Some (packed bs)))

-- a byte as it is shown: printable ASCII as itself, else a question mark
abbrev pub glyph : ℕ → ℕ
glyph b = cond (nat_lt 31 b) (cond (nat_lt b 127) b 63) 63
