use Rattle.std.proofs.Common.{◌≡◌, ◌+◌, length, take}
use Rattle.std.specs.List.{flat_map}
use Rattle.app_message.specs.Telegram.{entries}
use Rattle.app_message.specs.Spelling.{item_text}
use Rattle.app_message.proofs.parts.fits_body.Given as goal

abbrev pub invariant-loop-content : goal.invariant-loop-content
invariant-loop-content l = l.left + length (flat_map item_text
    (entries (take l.content-index l.items))) + length l.address ≡ 1023
