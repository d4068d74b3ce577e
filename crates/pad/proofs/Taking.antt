-- A read that answers a value has taken a word that stands for it.
use Rattle.std.proofs.Common.{◌≡◌, ℕ, List, Some, Result, Ok, inl, inr}
use Rattle.std.specs.Float.Ieee.{Float, binary64}
use Rattle.std.specs.Float.Parse.{ParsesFloat, IsParseFloatResult, parse_float}
use Rattle.std.specs.Str.Parse.{ParsesUnsigned, ExplainsUnsignedError, HasUnsignedDigitsIfOk}
use Rattle.std.specs.declared.num.ParseFloatError.{ParseFloatError}
use Rattle.std.specs.declared.num.ParseIntError.{ParseIntError}
use Rattle.pad.specs.declared.kind.Spelled.{Spelled}
use Rattle.pad.specs.declared.script.Words.{Words}
use Rattle.pad.specs.Entries.{TakesWhere}
use Rattle.pad.specs.Reading.{Text, Takes, Reads}
use Rattle.pad.specs.Spelling.{IsSpelled, ReadsSetting, WritesNumber}

taken : {T E : Type 0} (gives : List ℕ → Result T E → Type 0) (what : Text) (before : Words) (v : T) (after : Words)
    → Reads gives what before (Ok v) after → (w : Text) × Takes before w after × gives w.now (Ok v)
taken gives what before v after (inl h) = h
taken gives what before v after (inr h) = cc

-- how std reads a float of 64 bits, and a number of k bits
abbrev pub ReadsFloat : List ℕ → Result Float ParseFloatError → Type 0
ReadsFloat text r = ParsesFloat binary64 64 text r × IsParseFloatResult binary64 text r

abbrev pub ReadsNumber : ℕ → List ℕ → Result ℕ ParseIntError → Type 0
ReadsNumber k text r = ParsesUnsigned k 10 text r × ExplainsUnsignedError 10 text r × HasUnsignedDigitsIfOk text r

pub float_taken : (what : Text) (before : Words) (x : Float) (after : Words)
    → Reads ReadsFloat what before (Ok x) after → TakesWhere (λ word. parse_float binary64 word ≡ Some x) before after
float_taken what before x after h =
    let t = taken ReadsFloat what before x after h in
    (t.0, t.1, t.2.1)

pub number_taken : (k : ℕ) (what : Text) (before : Words) (n : ℕ) (after : Words)
    → Reads (ReadsNumber k) what before (Ok n) after → TakesWhere (WritesNumber k n) before after
number_taken k what before n after h =
    let t = taken (ReadsNumber k) what before n after h in
    (t.0, t.1, (t.2.0.0.0, t.2.0.0.1, t.2.0.1))

pub setting_taken : (what : Text) (before : Words) (s : Spelled) (after : Words)
    → Reads ReadsSetting what before (Ok s) after → TakesWhere (λ word. IsSpelled word s.0) before after
setting_taken what before s after h = taken ReadsSetting what before s after h
