use Rattle.std.proofs.Common.{refl, sym, ◌∙◌, inl, inr}
use Rattle.std.proofs.lemmas.Bool.{cases_Bool, false≢true}
use Rattle.std.proofs.lemmas.Str.{is_utf8-from_IsUtf8, IsUtf8-from_is_utf8}
use Rattle.std.specs.Str.{is_utf8}
use Rattle.toml.specs.Errors.{IsMemory}
use Rattle.site_file.specs.SiteFile.{tree_of}
use Rattle.site_file.proofs.reading.tree_of.Goals as goal

pub returns-in-Ok : goal.returns-in-Ok
unfolding tree_of
returns-in-Ok c =
    rw (is_utf8-from_IsUtf8 c.args.octets.now c.in-Ok.ensures.ok.0, c.in-Ok.ensures.ok.1) refl

pub returns-else-is_memory : goal.returns-else-is_memory
unfolding tree_of
returns-else-is_memory c _ =
    elim (cases_Bool (is_utf8 c.args.octets.now)) [
      | inl is ↦
          let other : IsMemory c.in-Err.e → ⊥ =
          λ memory. false≢true (sym c.if-is_memory.false ∙ c.is_memory.ensures.1 memory) in
          rw (is, c.in-Err.ensures.refused other (IsUtf8-from_is_utf8 c.args.octets.now is)) refl
      | inr is_not ↦ rw is_not refl
    ]
