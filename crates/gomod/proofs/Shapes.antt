-- The shapes of entries, computed.
use Rattle.std.proofs.Common.{◌≡◌, Bool, true, false, ◌&&◌, cond, List, [], ◌∷◌, ◌++◌, refl, ap, ◌∙◌, subst, Option}
use Rattle.std.proofs.Common.{Some, None, ⊎_elim}
use Rattle.std.proofs.lemmas.Bool.{and_parts}
use Rattle.modlex.specs.declared.lexer.TokenKind.{TokenKind}
use Rattle.modlex.specs.declared.lexer.TokenKind.TheVariants as kinds
use Rattle.gomod.specs.declared.keyword.Keyword.{Keyword}
use Rattle.gomod.specs.declared.keyword.Keyword.TheVariants.{Module, Go, Toolchain, Require, Exclude, Replace, Retract}
use Rattle.gomod.specs.declared.keyword.Keyword.TheVariants.{Tool, Godebug, Ignore}
use Rattle.modlex.specs.Symbols.{Symbol, is_word, is_arrow_kind, is_word_kind}
use Rattle.gomod.specs.Keywords.{takes_any_word}
use Rattle.modlex.specs.Words.{value_of}
use Rattle.gomod.specs.Reading.{are_interval_kinds}
use Rattle.gomod.specs.Entries.{Demand, module_path, go_version, version, interval, old_demands, old_version_demands}
use Rattle.gomod.specs.Entries.{new_file_demands, new_version_demands, HasShape, module_shape}
use Rattle.gomod.specs.Entries.{word_shape, go_shape, require_shape, exclude_shape, path_by_file, path_by_version}
use Rattle.gomod.specs.Entries.{version_by_file, version_by_version, retract_version, retract_interval}
use Rattle.modlex.proofs.TokenSound.{chosen}

abbrev pub when : Bool → List Demand → Option (List Demand)
when b ds = cond b (Some ds) None

-- one word, which may be any word
abbrev pub any_demands : List Symbol → Option (List Demand)
any_demands (w ∷ []) = when (is_word w) []
any_demands _ = None

-- the demands on the words of an entry, if the entry has a shape
abbrev pub demands_of : Keyword → List Symbol → Option (List Demand)
demands_of Module (w ∷ []) = when (is_word w) (module_path (value_of w) ∷ [])
demands_of Go (w ∷ []) = when (is_word w) (go_version (value_of w) ∷ [])
demands_of Toolchain ts = any_demands ts
demands_of Require (p ∷ v ∷ []) = when (is_word p && is_word v) (old_version_demands p v)
demands_of Exclude (p ∷ v ∷ []) = when (is_word p && is_word v) (old_version_demands p v)
demands_of Replace (p ∷ a ∷ f ∷ []) =
    when (is_word p && is_arrow_kind a.kind && is_word f) (old_demands p ++ new_file_demands f)
demands_of Replace (p ∷ a ∷ q ∷ w ∷ []) =
    cond (is_word p && is_arrow_kind a.kind && is_word q && is_word w) (Some (old_demands p ++ new_version_demands q w))
    (when (is_word p && is_word a && is_arrow_kind q.kind && is_word w) (old_version_demands p a ++ new_file_demands w))
demands_of Replace (p ∷ v ∷ a ∷ q ∷ w ∷ []) =
    when (is_word p && is_word v && is_arrow_kind a.kind && is_word q && is_word w)
    (old_version_demands p v ++ new_version_demands q w)
demands_of Retract (v ∷ []) = when (is_word v) (version (value_of v) ∷ [])
demands_of Retract (l ∷ v ∷ c ∷ w ∷ r ∷ []) =
    when (are_interval_kinds l.kind v.kind c.kind w.kind r.kind)
    (version (value_of v) ∷ version (value_of w) ∷ interval (value_of v) (value_of w) ∷ [])
demands_of Tool ts = any_demands ts
demands_of Godebug ts = any_demands ts
demands_of Ignore ts = any_demands ts
demands_of _ _ = None

when_some : (b : Bool) (ds es : List Demand) → when b ds ≡ Some es → (b ≡ true) × (ds ≡ es)
when_some true ds es h = (refl, cc)
when_some false ds es h = cc

-- a kind that passes the test of an arrow is the arrow
arrow_is : (k : TokenKind) → is_arrow_kind k ≡ true → k ≡ kinds.Arrow
arrow_is kinds.Arrow h = refl
arrow_is kinds.Name h = cc
arrow_is kinds.Quoted h = cc
arrow_is kinds.Raw h = cc
arrow_is kinds.Comma h = cc
arrow_is kinds.ParenLeft h = cc
arrow_is kinds.ParenRight h = cc
arrow_is kinds.BracketLeft h = cc
arrow_is kinds.BracketRight h = cc

arrow_from : (k : TokenKind) → k ≡ kinds.Arrow → is_arrow_kind k ≡ true
arrow_from k h = ap is_arrow_kind h

-- a word is not an arrow
word_no_arrow : (k : TokenKind) → is_word_kind k ≡ true → is_arrow_kind k ≡ false
word_no_arrow kinds.Arrow h = cc
word_no_arrow kinds.Name h = refl
word_no_arrow kinds.Quoted h = refl
word_no_arrow kinds.Raw h = refl
word_no_arrow kinds.Comma h = refl
word_no_arrow kinds.ParenLeft h = refl
word_no_arrow kinds.ParenRight h = refl
word_no_arrow kinds.BracketLeft h = refl
word_no_arrow kinds.BracketRight h = refl

demands_any : (k : Keyword) (ts : List Symbol) → takes_any_word k ≡ true → demands_of k ts ≡ any_demands ts
demands_any Toolchain ts h = refl
demands_any Tool ts h = refl
demands_any Godebug ts h = refl
demands_any Ignore ts h = refl
demands_any _ ts h = cc

-- an entry that has a shape makes the demands computed for it
pub demands-from_shape : (k : Keyword) (ts : List Symbol) (ds : List Demand) → HasShape k ts ds
    → demands_of k ts ≡ Some ds
demands-from_shape _ _ _ (module_shape w hw) = rw hw refl
demands-from_shape _ _ _ (word_shape k w hk hw) = demands_any k (w ∷ []) hk ∙ ap (λ b. when b []) hw
demands-from_shape _ _ _ (go_shape w hw) = rw hw refl
demands-from_shape _ _ _ (require_shape p v hp hv) = rw (hp, hv) refl
demands-from_shape _ _ _ (exclude_shape p v hp hv) = rw (hp, hv) refl
demands-from_shape _ _ _ (path_by_file p a f hp ha hf) = let arrow = arrow_from a.kind ha in rw (hp, arrow, hf) refl
demands-from_shape _ _ _ (path_by_version p a q w hp ha hq hw) = let arrow = arrow_from a.kind ha in
    rw (hp, arrow, hq, hw) refl
demands-from_shape _ _ _ (version_by_file p v a f hp hv ha hf) =
    let arrow = arrow_from a.kind ha in let none = word_no_arrow v.kind hv in rw (hp, none, hv, arrow, hf) refl
demands-from_shape _ _ _ (version_by_version p v a q w hp hv ha hq hw) =
    let arrow = arrow_from a.kind ha in rw (hp, hv, arrow, hq, hw) refl
demands-from_shape _ _ _ (retract_version v hv) = rw hv refl
demands-from_shape _ _ _ (retract_interval l v c w r hl hv hc hw hr) = rw (hl, hc, hr, hv, hw) refl

and3 : (a b c : Bool) → (a && b && c) ≡ true → (a ≡ true) × (b ≡ true) × (c ≡ true)
and3 a b c h = let x = and_parts (a && b) c h in let y = and_parts a b x.0 in (y.0, y.1, x.1)

and4 : (a b c d : Bool) → (a && b && c && d) ≡ true → (a ≡ true) × (b ≡ true) × (c ≡ true) × (d ≡ true)
and4 a b c d h = let x = and_parts (a && b && c) d h in let y = and3 a b c x.0 in (y.0, y.1, y.2, x.1)

and5 : (a b c d e : Bool) → (a && b && c && d && e) ≡ true
    → (a ≡ true) × (b ≡ true) × (c ≡ true) × (d ≡ true) × (e ≡ true)
and5 a b c d e h = let x = and_parts (a && b && c && d) e h in let y = and4 a b c d x.0 in (y.0, y.1, y.2, y.3, x.1)

shape_as : (k : Keyword) (ts : List Symbol) (ds es : List Demand) → ds ≡ es → HasShape k ts ds → HasShape k ts es
shape_as k ts ds es same h = subst (HasShape k ts) same h

record AreInterval (l v c w r : TokenKind) : Type 0 where
  left : l ≡ kinds.BracketLeft
  low : is_word_kind v ≡ true
  comma : c ≡ kinds.Comma
  high : is_word_kind w ≡ true
  right : r ≡ kinds.BracketRight

interval_kinds : (l v c w r : TokenKind) → are_interval_kinds l v c w r ≡ true → AreInterval l v c w r
interval_kinds kinds.BracketLeft v kinds.Comma w kinds.BracketRight h =
    let both = and_parts _ _ h in record { left = refl; low = both.0; comma = refl; high = both.1; right = refl }
interval_kinds _ v _ w _ h = cc

any_from : (k : Keyword) (ts : List Symbol) (ds : List Demand) → takes_any_word k ≡ true → any_demands ts ≡ Some ds
    → HasShape k ts ds
any_from k (w ∷ []) ds is h = let x = when_some _ _ ds h in shape_as k (w ∷ []) _ ds x.1 (word_shape k w is x.0)
any_from k _ ds is h = cc

-- an entry for which demands are computed has a shape that makes them
pub shape-from_demands : (k : Keyword) (ts : List Symbol) (ds : List Demand) → demands_of k ts ≡ Some ds
    → HasShape k ts ds
shape-from_demands Module (w ∷ []) ds h = let x = when_some _ _ ds h in
    shape_as Module (w ∷ []) _ ds x.1 (module_shape w x.0)
shape-from_demands Go (w ∷ []) ds h = let x = when_some _ _ ds h in shape_as Go (w ∷ []) _ ds x.1 (go_shape w x.0)
shape-from_demands Toolchain ts ds h = any_from Toolchain ts ds refl h
shape-from_demands Require (p ∷ v ∷ []) ds h =
    let x = when_some _ _ ds h in let b = and_parts _ _ x.0 in
    shape_as Require (p ∷ v ∷ []) _ ds x.1 (require_shape p v b.0 b.1)
shape-from_demands Exclude (p ∷ v ∷ []) ds h =
    let x = when_some _ _ ds h in let b = and_parts _ _ x.0 in
    shape_as Exclude (p ∷ v ∷ []) _ ds x.1 (exclude_shape p v b.0 b.1)
shape-from_demands Replace (p ∷ a ∷ f ∷ []) ds h =
    let x = when_some _ _ ds h in let b = and3 _ _ _ x.0 in
    shape_as Replace (p ∷ a ∷ f ∷ []) _ ds x.1 (path_by_file p a f b.0 (arrow_is a.kind b.1) b.2)
shape-from_demands Replace (p ∷ a ∷ q ∷ w ∷ []) ds h =
    ⊎_elim
    (λ x. (let b = and4 _ _ _ _ x.0 in let same : old_demands p ++ new_version_demands q w ≡ ds = (let e = x.1 in cc) in
    shape_as Replace (p ∷ a ∷ q ∷ w ∷ []) _ ds same (path_by_version p a q w b.0 (arrow_is a.kind b.1) b.2 b.3)))
    (λ x. (let y = when_some _ _ ds x.1 in let b = and4 _ _ _ _ y.0 in
    shape_as Replace (p ∷ a ∷ q ∷ w ∷ []) _ ds y.1 (version_by_file p a q w b.0 b.1 (arrow_is q.kind b.2) b.3)))
    (chosen _ _ _ (Some ds) h)
shape-from_demands Replace (p ∷ v ∷ a ∷ q ∷ w ∷ []) ds h =
    let x = when_some _ _ ds h in let b = and5 _ _ _ _ _ x.0 in
    shape_as Replace (p ∷ v ∷ a ∷ q ∷ w ∷ []) _ ds x.1
    (version_by_version p v a q w b.0 b.1 (arrow_is a.kind b.2) b.3 b.4)
shape-from_demands Retract (v ∷ []) ds h = let x = when_some _ _ ds h in
    shape_as Retract (v ∷ []) _ ds x.1 (retract_version v x.0)
shape-from_demands Retract (l ∷ v ∷ c ∷ w ∷ r ∷ []) ds h =
    let x = when_some _ _ ds h in let k = interval_kinds _ _ _ _ _ x.0 in
    shape_as Retract (l ∷ v ∷ c ∷ w ∷ r ∷ []) _ ds x.1 (retract_interval l v c w r k.left k.low k.comma k.high k.right)
shape-from_demands Tool ts ds h = any_from Tool ts ds refl h
shape-from_demands Godebug ts ds h = any_from Godebug ts ds refl h
shape-from_demands Ignore ts ds h = any_from Ignore ts ds refl h
shape-from_demands _ _ ds h = cc
