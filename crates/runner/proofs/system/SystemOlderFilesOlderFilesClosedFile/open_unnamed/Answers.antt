use Rattle.std.proofs.Common.{◌≡◌, ◌∙◌, [], ◌∷◌, ◌++◌, ap, append_assoc}
use Rattle.store_files.specs.declared.files.Deed.TheVariants.{OpenedUnnamed, Unlinked}
use Rattle.runner.proofs.system.SystemOlderFilesOlderFilesClosedFile.open_unnamed.Goals as goal

pub returns-in-Ok-clause-opened : goal.returns-in-Ok-clause-opened
returns-in-Ok-clause-opened c =
    let first = rw c.as_bytes.ensures.value at c.note.ensures in
    let second = rw c.as_bytes-in-Ok.ensures.value at c.note-in-Ok.ensures in
    second
    ∙ (ap (λ l. l ++ (c.args.copy.now.log.bytes.items, Unlinked) ∷ []) first
    ∙ append_assoc c.args.self.now.noted.deeds ((c.args.copy.now.path.bytes.items, OpenedUnnamed) ∷ [])
    ((c.args.copy.now.log.bytes.items, Unlinked) ∷ []))
