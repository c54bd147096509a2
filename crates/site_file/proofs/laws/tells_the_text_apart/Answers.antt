use Rattle.site_file.proofs.OfTree.{of_tree, of_text, never_memory}
use Rattle.site_file.proofs.laws.tells_the_text_apart.Goals as goal

pub returns : goal.returns
returns c = record { tree = of_tree; text = of_text; memory = never_memory }
