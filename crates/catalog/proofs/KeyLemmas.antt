-- The catalog of a key, by the lines of its shelf.
use Rattle.std.proofs.Common.{◌≡◌, ◌∙◌, ℕ, List, [], Option, Some, None, Result, Ok, Err, refl, sym, ap, inr}
use Rattle.std.proofs.Common.{append-nil, arith, subst}
use Rattle.std.proofs.KnownBytes.{Appends-nil}
use Rattle.std.specs.FinMap as map
use Rattle.std.specs.FinSet as set
use Rattle.std.specs.Io.KnownBytes.{Keeps}
use Rattle.std.specs.Prelude.{◌⊎◌, Bool, true, false, MatchResult}
use Rattle.world.proofs.Causes.{grown_before}
use Rattle.world.specs.Store.{Shown, Reads}
use Rattle.world.specs.World.{World, IsWorld, place_cmp}
use Rattle.world.specs.declared.entry.Holder.{Holder}
use Rattle.world.specs.declared.registry.StoreFault.{StoreFault}
use Rattle.catalog.specs.Catalog.{lines_seen}
use Rattle.catalog.specs.Meanwhile.{HaltsOrNone, IsCut, PrintsLines, PrintsOn, past, there, unread_on}
use Rattle.catalog.specs.Printing.{lines_of_key}
use Rattle.catalog.specs.declared.between.CatalogEnd.{CatalogEnd}
use Rattle.catalog.specs.declared.between.CatalogEnd.TheVariants as end
use Rattle.catalog.specs.declared.print.PrintError.TheVariants as why
use Rattle.catalog.proofs.Printed.{Appends-Keeps}
use Rattle.catalog.proofs.TurnLemmas.{told_on}

module _ (halts : Type 0) (a b : Shown) (key : List ℕ) (written : Option (List ℕ)) where
  -- without the key nothing was printed
  pub none_keyed : (found : Option Holder) → found ≡ None → Reads a b (Ok found) (λ w. map.get w.keys key)
      → PrintsLines halts a b key written written (Ok false)
  none_keyed found none read = record {
    prints = record {
      printed = [];
      appends = Appends-nil written;
      honest = read.honest;
      at = λ h w stands.
          let is = sym (read.at h w stands).answer ∙ none in
          record {
            all = ap (λ o. lines_of_key o w) (sym is);
            front = (lines_of_key (map.get w.keys key) w, refl);
            answers = is;
          };
      no_fewer = read.cause.no_fewer;
      device = λ failed. absurd (let e = failed in cc);
    };
    cut = λ h w stands failed. absurd failed;
  }

  -- nor after a fault
  pub fault_keyed : (f : StoreFault) → Reads a b (Err f) (λ w. map.get w.keys key)
      → PrintsLines halts a b key written written (Err (unread_on f))
  fault_keyed f read = record {
    prints = record {
      printed = [];
      appends = Appends-nil written;
      honest = read.honest;
      at = λ h w stands.
          record { all = tt; front = (lines_of_key (map.get w.keys key) w, refl); answers = tt };
      no_fewer = read.cause.no_fewer;
      device = λ failed. read.cause.device (told_on f failed);
    };
    cut = λ h w stands failed all. inr (sym all);
  }

  module _ (c : Shown) (now : Option (List ℕ)) (holder : Holder) (found : Option Holder) (some : found ≡ Some holder)
      (sound : (w : World) → a.stands w → IsWorld w) (read : Reads a b (Ok found) (λ w. map.get w.keys key)) where
    -- the lines of the key are those of its shelf, which is there
    same : (w : World) → found ≡ map.get w.keys key → lines_seen w holder.shelf ≡ lines_of_key (map.get w.keys key) w
    same w is = ap (λ o. lines_of_key o w) (sym some ∙ is)

    shelf_there : (w : World) → a.stands w → found ≡ map.get w.keys key
        → map.contains_key w.shelves holder.shelf ≡ true
    shelf_there w stands is = (sound w stands).keys_stand key holder (sym is ∙ some)

    module _ (news : set.FinSet place_cmp) where
      -- a failure while its lines are printed
      pub cut_keyed : (e : CatalogEnd) → PrintsOn {T = Unit {0}} (there b holder.shelf) (past c news holder.shelf)
          written now (Err e) (λ w. lines_seen w holder.shelf) (HaltsOrNone halts (λ w. lines_seen w holder.shelf))
          → PrintsLines halts a c key written now (Err e)
      cut_keyed e it = record {
        prints = record {
          printed = it.printed;
          appends = it.appends;
          honest = λ h. read.honest (it.honest h);
          at = λ h w stands.
              let was = read.at (it.honest h) w stands in
              let here = it.at h w (was.stays, shelf_there w stands was.answer) in
              record {
                all = tt;
                front = (here.front.0, sym (same w was.answer) ∙ here.front.1);
                answers = tt;
              };
          no_fewer = let one = read.cause.no_fewer in let two = it.no_fewer in omega (arith, one, two);
          device = λ failed. grown_before _ _ _ read.cause.no_fewer (it.device (let e = failed in cc));
        };
        cut = λ h w stands failed all.
            let was = read.at (it.honest h) w stands in
            let here = it.at h w (was.stays, shelf_there w stands was.answer) in
            subst (λ l. halts ⊎ (l ≡ [])) (same w was.answer)
            (here.cut failed (all ∙ sym (same w was.answer)));
      }

      -- all of its lines were printed, and then flushed or not
      pub whole_keyed : (last : Option (List ℕ)) (result : Result Bool CatalogEnd)
          → PrintsOn {T = Unit {0}} (there b holder.shelf) (past c news holder.shelf) written now (Ok tt)
          (λ w. lines_seen w holder.shelf) (HaltsOrNone halts (λ w. lines_seen w holder.shelf))
          → Keeps now last → MatchResult result (λ is. is ≡ true) (λ e. e ≡ end.PrintError why.Output)
          → PrintsLines halts a c key written last result
      whole_keyed last (Ok false) it kept is = absurd (let e = is in cc)
      whole_keyed last (Ok true) it kept is = record {
        prints = record {
          printed = it.printed;
          appends = Appends-Keeps written now last it.printed it.appends kept;
          honest = λ h. read.honest (it.honest h);
          at = λ h w stands.
              let was = read.at (it.honest h) w stands in
              let here = it.at h w (was.stays, shelf_there w stands was.answer) in
              let all = here.all ∙ same w was.answer in
              record {
                all = all;
                front = ([], sym all ∙ sym (append-nil it.printed));
                answers = (holder, sym was.answer ∙ some);
              };
          no_fewer = let one = read.cause.no_fewer in let two = it.no_fewer in omega (arith, one, two);
          device = λ failed. absurd (let e = failed in cc);
        };
        cut = λ h w stands failed. absurd failed;
      }
      whole_keyed last (Err e) it kept is = record {
        prints = record {
          printed = it.printed;
          appends = Appends-Keeps written now last it.printed it.appends kept;
          honest = λ h. read.honest (it.honest h);
          at = λ h w stands.
              let was = read.at (it.honest h) w stands in
              let here = it.at h w (was.stays, shelf_there w stands was.answer) in
              let all = here.all ∙ same w was.answer in
              record { all = tt; front = ([], sym all ∙ sym (append-nil it.printed)); answers = tt };
          no_fewer = let one = read.cause.no_fewer in let two = it.no_fewer in omega (arith, one, two);
          device = λ failed. absurd (let same_e = is in let e = failed in cc);
        };
        cut = λ h w stands failed. absurd (let not_cut = subst (λ x. IsCut {T = Bool} (Err x)) is failed in not_cut);
      }
