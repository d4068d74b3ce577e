-- Which word asks for which command.
use Rattle.std.specs.Prelude.{◌≡◌, ◌≢◌, ℕ, List, Result, codes, MatchResult}
use Rattle.pad.specs.declared.command.Command.{Command}
use Rattle.pad.specs.declared.command.Command.TheVariants as command
use Rattle.pad.specs.declared.command.OnShelf.{OnShelf}
use Rattle.pad.specs.declared.command.OnShelf.TheVariants as shelf
use Rattle.pad.specs.declared.command.OnDraft.{OnDraft}
use Rattle.pad.specs.declared.command.OnDraft.TheVariants as draft
use Rattle.pad.specs.declared.command.OnMap.{OnMap}
use Rattle.pad.specs.declared.command.OnMap.TheVariants as map
use Rattle.pad.specs.declared.command.Record.{Record}
use Rattle.pad.specs.declared.command.Record.TheVariants as record_of
use Rattle.pad.specs.declared.complaint.Misspelled.{Misspelled}

abbrev pub shelf_word : OnShelf → List ℕ
shelf_word shelf.Entry = codes "entry"
shelf_word shelf.Side = codes "side"
shelf_word shelf.Circle = codes "circle"
shelf_word shelf.Count = codes "count"
shelf_word shelf.List = codes "list"
shelf_word shelf.Unnamed = codes "unnamed"

abbrev pub record_word : Record → List ℕ
record_word record_of.Out = codes "out"
record_word record_of.Half = codes "half"
record_word record_of.Face = codes "face"

abbrev pub draft_word : OnDraft → List ℕ
draft_word (draft.Write r) = record_word r
draft_word draft.Check = codes "check"
draft_word draft.Settle = codes "settle"

abbrev pub map_word : OnMap → List ℕ
map_word map.Walk = codes "walk"
map_word map.Hull = codes "hull"
map_word map.Reopen = codes "reopen"

-- the word that asks for a command
abbrev pub command_word : Command → List ℕ
command_word command.Kind = codes "kind"
command_word command.Draft = codes "draft"
command_word (command.OnShelf c) = shelf_word c
command_word (command.OnDraft c) = draft_word c
command_word (command.OnMap c) = map_word c
command_word command.Show = codes "show"

-- a command is read exactly from its word
abbrev pub ReadsCommand : List ℕ → Result Command Misspelled → Type 0
ReadsCommand word r = MatchResult r (λ c. word ≡ command_word c) (λ _. (c : Command) → word ≢ command_word c)
