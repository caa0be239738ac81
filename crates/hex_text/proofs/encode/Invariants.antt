-- The text so far and what is still to encode make the whole text.
use Rattle.std.proofs.Common.{◌≡◌, ◌++◌, drop, string_bytes}
use Rattle.hex_text.specs.Texts.{hex_text}
use Rattle.hex_text.proofs.encode.Given as goal

abbrev pub invariant-loop-b : goal.invariant-loop-b
invariant-loop-b l = hex_text l.bytes ≡ string_bytes l.text ++ hex_text (drop l.b-index l.bytes)
