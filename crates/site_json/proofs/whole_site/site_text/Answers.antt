use Rattle.std.proofs.Common.{ap, ◌∙◌}
use Rattle.std.specs.Prelude.{option_copied}
use Rattle.serde_json.specs.Written.{compact_text, has_float}
use Rattle.site_json.proofs.NoFloats.{no_float_site}
use Rattle.site_json.proofs.whole_site.site_text.Goals as goal

pub returns : goal.returns
returns c =
    c.in_ok-to_string.ensures.text
    (ap has_float c.in_ok-site.ensures
    ∙ no_float_site c.args.book.now c.args.unpaid.now c.args.connections c.args.sessions.now
    c.args.at c.args.opened (option_copied c.args.seal))
    ∙ ap compact_text c.in_ok-site.ensures
