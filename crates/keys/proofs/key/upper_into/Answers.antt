-- `keys::key::upper_into` meets its contract. The part of the buffer that is written is the text in upper case.
use native.Mathlib.Omega.{arith}
use mathlib.Core.List.{map}
use mathlib.Core.Path.{◌≡◌, ◌∙◌, ap}
use lib.ListN.{length, length-map}
use Rattle.std.specs.Char.{to_ascii_uppercase}
use Rattle.std.proofs.lemmas.Grind.{common_steps}
use Rattle.ids.specs.Bytes.{upper_of}
use Rattle.keys.proofs.Uppers.{uppers}
use Rattle.keys.proofs.key.upper_into.Goals as goal

pub returns : goal.returns
returns c =
    let s = c.args.s.now in
    let written : c.make_ascii_uppercase.new.self ≡ map upper_of s = c.make_ascii_uppercase.ensures.after ∙ ap (map to_ascii_uppercase) c.copy_from_slice.ensures.after ∙ uppers s in
    let as_long : length (map upper_of s) ≡ length s = length-map s upper_of in
    rw written (grind (arith, common_steps))
