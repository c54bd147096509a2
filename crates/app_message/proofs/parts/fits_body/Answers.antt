use Rattle.std.proofs.Common.{◌<◌, [], length, arith, sym}
use Rattle.std.specs.List.{flat_map}
use Rattle.std.proofs.lemmas.Bool.{lt-leb}
use Rattle.std.proofs.lemmas.List.{length-append}
use Rattle.app_message.specs.Telegram.{entries}
use Rattle.app_message.specs.Spelling.{item_text, body_text}
use Rattle.app_message.proofs.Rising.{too_long}
use Rattle.app_message.proofs.parts.fits_body.Goals as goal

pub returns-then-left-size : goal.returns-then-left-size
returns-then-left-size c =
    let items = c.args.items.now in
    let more = too_long items c.loop-content.content-index (
      0,
      record { ref_ptr = (0, 0); now = [] },
    ) c.loop-content-test.true in
    let long : 1024 < length (body_text c.args.address.now (entries items)) = omega
    (arith, more, length-append c.args.address.now (flat_map item_text (entries items))) in
    sym (lt-leb _ _ long)
