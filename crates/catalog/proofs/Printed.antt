-- Lines that were printed one after another, and what a catalog without turns printed.
use Rattle.std.proofs.Common.{◌≡◌, ◌∙◌, ◌++◌, ℕ, List, [], Option, Some, None, Result, Ok, Err, ap, inl, inr, sym}
use Rattle.std.proofs.KnownBytes.{Appends-nil}
use Rattle.std.specs.Io.KnownBytes.{Appends, Keeps}
use Rattle.std.specs.List.{flat_map}
use Rattle.std.specs.Prelude.{Bool, ◌⊎◌}
use Rattle.histories.specs.Calls.{Writes}
use Rattle.interleave.specs.Interleave.{IsAsItWas}
use Rattle.keyring.proofs.Gathered.{HoldsThroughout}
use Rattle.world.specs.Store.{Shown, Reads}
use Rattle.world.specs.World.{World}
use Rattle.catalog.specs.Meanwhile.{FailsOn, IsCut, PrintsLines}
use Rattle.catalog.specs.Printing.{FailsBy, IsUnread, PrintsCatalog}
use Rattle.catalog.specs.declared.between.CatalogEnd.{CatalogEnd}
use Rattle.catalog.specs.declared.between.CatalogEnd.TheVariants as end
use Rattle.catalog.specs.declared.print.PrintError.{PrintError}
use Rattle.catalog.specs.declared.print.PrintError.TheVariants as why

-- In a world, these bytes and the lines of the pieces that are left are all lines, and those pieces are the last ones.
pub record IsLeft {X : Type 0} (f : X → List ℕ) (goal : List ℕ) (all left : List X) (printed : List ℕ) : Type 0 where
  pub lines : printed ++ flat_map f left ≡ goal
  pub before : List X
  pub pieces : all ≡ before ++ left

module _ {X : Type 0} (f : World → X → List ℕ) (goal : World → List ℕ) (all : World → List X) where
  -- the lines of some pieces were printed, and those of the others are left
  pub record Streams (a b : Shown) (written now : Option (List ℕ)) (left : List X) : Type 0 where
    pub printed : List ℕ
    pub appends : Appends written now printed
    pub holds : HoldsThroughout a b (λ w. IsLeft (f w) (goal w) (all w) left printed)

  -- it begins once the pieces were read
  pub streams_first : {A : Type 0} (list : A → List X) (a b : Shown) (got : A) (pieces : List X) (of : World → A)
      (written : Option (List ℕ)) → ((w : World) → flat_map (f w) (list (of w)) ≡ goal w)
      → ((w : World) → all w ≡ list (of w)) → pieces ≡ list got → Reads a b (Ok got) of
      → Streams a b written written pieces
  streams_first list a b got pieces of written lines whole are read = record {
    printed = [];
    appends = Appends-nil written;
    holds = record {
      honest = read.honest;
      at = λ h w stands.
          let here = read.at h w stands in
          let same = are ∙ ap list here.answer in
          record {
            holds = record {
              lines = ap (λ xs. flat_map (f w) xs) same ∙ lines w;
              before = [];
              pieces = whole w ∙ sym same;
            };
            stays = here.stays;
            left = here.left;
          };
      no_fewer = read.cause.no_fewer;
    };
  }

-- bytes that were appended stay appended
pub Appends-Keeps : (a b c : Option (List ℕ)) (bs : List ℕ) → Appends a b bs → Keeps b c → Appends a c bs
Appends-Keeps None b c bs p q = tt
Appends-Keeps (Some x) None c bs p q = absurd p
Appends-Keeps (Some x) (Some y) None bs p q = absurd q
Appends-Keeps (Some x) (Some y) (Some z) bs p q = q ∙ p

-- ---- without turns

module _ (a b : Shown) (key : List ℕ) (written now : Option (List ℕ)) (same : IsAsItWas a b) where
  -- a catalog that was printed or had no key, with a store that is as it was
  pub whole_plain : (is : Bool) → PrintsLines ⊥ a b key written now (Ok is)
      → PrintsCatalog a b key written now (Ok is)
  whole_plain is lines = let it = lines.prints in record {
    prints = record {
      printed = it.printed;
      appends = it.appends;
      honest = it.honest;
      at = λ h w stands.
          let here = it.at h w stands in
          record {
            all = here.all;
            front = here.front;
            cut = λ unread. absurd unread;
            stays = same.stays h w stands;
            left = λ x y may. same.left h w x y stands may;
          };
      no_fewer = it.no_fewer;
      device = λ failed. absurd (let e = failed in cc);
    };
    answers = λ h w stands. (it.at h w stands).answers;
  }

  -- one that failed
  pub cut_plain : (e : PrintError) → PrintsLines ⊥ a b key written now (Err (end.PrintError e))
      → PrintsCatalog a b key written now (Err e)
  cut_plain e lines = let it = lines.prints in record {
    prints = record {
      printed = it.printed;
      appends = it.appends;
      honest = it.honest;
      at = λ h w stands. record {
        all = tt;
        front = (it.at h w stands).front;
        cut = λ unread all. no_turn (lines.cut h w stands (is_cut e unread) all);
        stays = same.stays h w stands;
        left = λ x y may. same.left h w x y stands may;
      };
      no_fewer = it.no_fewer;
      device = λ failed. it.device (ap (λ (r : Result Bool PrintError). turned r) failed);
    };
    answers = λ h w stands. tt;
  }
    where
      no_turn : {T : Type 0} → ⊥ ⊎ T → T
      no_turn (inl never) = absurd never
      no_turn (inr x) = x

      is_cut : (u : PrintError) → IsUnread {T = Bool} (Err u) → IsCut {T = Bool} (Err (end.PrintError u))
      is_cut why.Device unread = tt
      is_cut why.Memory unread = tt
      is_cut why.Output unread = absurd unread

      turned : Result Bool PrintError → Result Bool CatalogEnd
      turned (Ok is) = Ok is
      turned (Err e) = Err (end.PrintError e)

-- a failure of the output is one without turns too
pub fails_plain : (writes writes_new : Writes) (e : PrintError)
    → FailsOn {T = Bool} writes writes_new (Err (end.PrintError e)) → FailsBy {T = Bool} writes writes_new (Err e)
fails_plain writes writes_new e it = record {
  no_fewer = it.no_fewer;
  output = λ is. it.output (ap (λ (x : PrintError). Err (end.PrintError x)) is);
}
