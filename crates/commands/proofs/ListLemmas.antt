-- An import of a list in a file.
use Rattle.std.proofs.Common.{◌≡◌, ℕ, List, Bool, Option, Result, Ok, Err, ◌++◌, ◌∙◌, refl, ap, subst, inl}
use Rattle.world.specs.Store.{Shown}
use Rattle.commands.specs.ImportFile.{ImportsBytes, ImportsFile, ImportsNone, list_limit}
use Rattle.commands.specs.Sources.{Adds, FileDone, ReadsFront}
use Rattle.commands.specs.declared.front.Front.{Front}
use Rattle.commands.specs.declared.refusal.CommandRefusal.{CommandRefusal}
use Rattle.commands.specs.declared.refusal.CommandRefusal.TheVariants.{Io}
use Rattle.commands.specs.declared.sources.SourceFault.{SourceFault}

module _ {S : Type 0} (shown : S → Shown) (old new : S) (key list : List ℕ) (before mid after : List FileDone)
    (written written_new : Option (List ℕ)) where
  -- the list was read, and then the rows of what was read were imported
  pub list_read : (front : Front) (result : Result Bool CommandRefusal)
      → Adds before mid (ReadsFront list_limit list (Ok front))
      → ImportsBytes (shown old) (shown new) key front mid after written written_new result
      → ImportsFile shown old new key list before after written written_new result
  list_read front result adds imports = inl (record {
    front = front;
    deed = adds.are.0;
    read = adds.are.2;
    imports = subst (λ m. ImportsBytes (shown old) (shown new) key front m after written written_new result)
        (adds.done ∙ ap (λ ds. before ++ ds) adds.are.1) imports;
  })

  -- the list could not be opened
  pub list_unopened : (fault : SourceFault) → Adds before after (ReadsFront list_limit list (Err fault)) → new ≡ old
      → written_new ≡ written → ImportsNone shown old new key list before after written written_new (Err Io)
  list_unopened fault adds store output = record {
    fault = fault;
    deed = adds.are.0;
    read = adds.are.2;
    done = adds.done ∙ ap (λ ds. before ++ ds) adds.are.1;
    store = store;
    output = output;
    tells = refl;
  }
