-- An entry is read exactly if it is right, and else has the fault of the grammar.
use Rattle.std.proofs.Common.{◌≡◌, ℕ, true, false, List, [], ◌∷◌, refl, ap, sym, ◌∙◌, Option, Some, None, Result, Ok}
use Rattle.std.proofs.Common.{Err, ◌⊎◌, inl, inr, ⊎_elim}
use Rattle.std.specs.Str.{bytes_eq}
use Rattle.std.proofs.lemmas.Slice.Eq.{bytes_eq-Decides}
use Rattle.modlex.specs.declared.lexer.TokenKind.{TokenKind}
use Rattle.modlex.specs.declared.lexer.TokenKind.TheVariants as kinds
use Rattle.gomod.specs.declared.keyword.Keyword.{Keyword}
use Rattle.gomod.specs.declared.fault.GoModFault.{GoModFault}
use Rattle.gomod.specs.declared.fault.GoModFault.TheVariants as faults
use Rattle.modlex.specs.Symbols.{Symbol, is_word_kind}
use Rattle.gomod.specs.Keywords.{opens_block_kind, closes_block_kind, Keywords, keyword_named, spelling}
use Rattle.gomod.specs.Reading.{Contents, entry, is_opening, is_closing}
use Rattle.gomod.specs.Entries.{Demand, HasShape, IsRight, FailsFirst, fault_of, module_shape, word_shape, go_shape}
use Rattle.gomod.specs.Entries.{require_shape, exclude_shape}
use Rattle.gomod.specs.Entries.{path_by_file, path_by_version, version_by_file, version_by_version, retract_version}
use Rattle.gomod.specs.Entries.{retract_interval}
use Rattle.gomod.proofs.Demands.{check-met, check-all, check-fails, outcome}
use Rattle.gomod.proofs.Shapes.{demands_of, demands-from_shape, shape-from_demands}
use Rattle.gomod.proofs.EntryLaw.{success, entry_success}
use Rattle.modlex.proofs.TokenSound.{chosen}

succeeds : {A : Type 0} (r : Result A GoModFault) → success r ≡ Ok tt → (x : A) × (r ≡ Ok x)
succeeds (Ok x) h = (x, refl)
succeeds (Err e) h = cc

right_by : (line : ℕ) (k : Keyword) (ts : List Symbol) (o : Option (List Demand)) → demands_of k ts ≡ o
    → outcome line o ≡ Ok tt → IsRight k ts
right_by line k ts None is h = cc
right_by line k ts (Some ds) is h = (ds, shape-from_demands k ts ds is, check-met line ds h)

pub entry_right : (line : ℕ) (k : Keyword) (ts : List Symbol) (q : Contents) → entry line k ts ≡ Ok q → IsRight k ts
entry_right line k ts q h = right_by line k ts (demands_of k ts) refl (sym (entry_success line k ts) ∙ ap success h)

pub right_entry : (line : ℕ) (k : Keyword) (ts : List Symbol) → IsRight k ts → (q : Contents) × (entry line k ts ≡ Ok q)
right_entry line k ts h =
    succeeds (entry line k ts)
    (entry_success line k ts ∙ ap (outcome line) (demands-from_shape k ts h.0 h.1) ∙ check-all line h.0 h.2)

-- the fault of an entry: it has no shape, or its first word that is not what it has to be
abbrev pub IsEntryFault : ℕ → Keyword → List Symbol → GoModFault → Type 0
IsEntryFault line k ts f =
    (((ds : List Demand) → ¬ HasShape k ts ds) × (f ≡ faults.Grammar line))
    ⊎ ((ds : List Demand) × HasShape k ts ds × ((d : Demand) × FailsFirst ds d × (f ≡ fault_of line d)))

fault_by : (line : ℕ) (k : Keyword) (ts : List Symbol) (o : Option (List Demand)) (f : GoModFault) → demands_of k ts ≡ o
    → outcome line o ≡ Err f → IsEntryFault line k ts f
fault_by line k ts None f is h = inl (λ ds shape. (let some = demands-from_shape k ts ds shape in cc), cc)
fault_by line k ts (Some ds) f is h = inr (ds, shape-from_demands k ts ds is, check-fails line ds f h)

pub entry_fault : (line : ℕ) (k : Keyword) (ts : List Symbol) (f : GoModFault) → entry line k ts ≡ Err f
    → IsEntryFault line k ts f
entry_fault line k ts f h = fault_by line k ts (demands_of k ts) f refl (sym (entry_success line k ts) ∙ ap success h)

-- two shapes of an entry ask the same
pub shape_same : (k : Keyword) (ts : List Symbol) (ds es : List Demand) → HasShape k ts ds → HasShape k ts es → ds ≡ es
shape_same k ts ds es h g = let a = demands-from_shape k ts ds h in let b = demands-from_shape k ts es g in cc

-- an entry is neither a parenthesis nor empty
word_kind_opens : (k : TokenKind) → is_word_kind k ≡ true → opens_block_kind k ≡ false
word_kind_opens kinds.Name h = refl
word_kind_opens kinds.Quoted h = refl
word_kind_opens kinds.Raw h = refl
word_kind_opens kinds.Arrow h = refl
word_kind_opens kinds.Comma h = refl
word_kind_opens kinds.ParenLeft h = cc
word_kind_opens kinds.ParenRight h = refl
word_kind_opens kinds.BracketLeft h = refl
word_kind_opens kinds.BracketRight h = refl

-- a word closes no block
word_kind_closes : (k : TokenKind) → is_word_kind k ≡ true → closes_block_kind k ≡ false
word_kind_closes kinds.Name h = refl
word_kind_closes kinds.Quoted h = refl
word_kind_closes kinds.Raw h = refl
word_kind_closes kinds.Arrow h = refl
word_kind_closes kinds.Comma h = refl
word_kind_closes kinds.ParenLeft h = refl
word_kind_closes kinds.ParenRight h = cc
word_kind_closes kinds.BracketLeft h = refl
word_kind_closes kinds.BracketRight h = refl

-- the tokens of an entry are not one opening parenthesis
pub shape_no_opening : (k : Keyword) (ts : List Symbol) (ds : List Demand) → HasShape k ts ds → is_opening ts ≡ false
shape_no_opening _ _ _ (module_shape w hw) = word_kind_opens w.kind hw
shape_no_opening _ _ _ (word_shape k w hk hw) = word_kind_opens w.kind hw
shape_no_opening _ _ _ (go_shape w hw) = word_kind_opens w.kind hw
shape_no_opening _ _ _ (require_shape p v hp hv) = refl
shape_no_opening _ _ _ (exclude_shape p v hp hv) = refl
shape_no_opening _ _ _ (path_by_file p a f hp ha hf) = refl
shape_no_opening _ _ _ (path_by_version p a q w hp ha hq hw) = refl
shape_no_opening _ _ _ (version_by_file p v a f hp hv ha hf) = refl
shape_no_opening _ _ _ (version_by_version p v a q w hp hv ha hq hw) = refl
shape_no_opening _ _ _ (retract_version v hv) = word_kind_opens v.kind hv
shape_no_opening _ _ _ (retract_interval l v c w r hl hv hc hw hr) = refl

-- the tokens of an entry are not one closing parenthesis
pub shape_no_closing : (k : Keyword) (ts : List Symbol) (ds : List Demand) → HasShape k ts ds → is_closing ts ≡ false
shape_no_closing _ _ _ (module_shape w hw) = word_kind_closes w.kind hw
shape_no_closing _ _ _ (word_shape k w hk hw) = word_kind_closes w.kind hw
shape_no_closing _ _ _ (go_shape w hw) = word_kind_closes w.kind hw
shape_no_closing _ _ _ (require_shape p v hp hv) = refl
shape_no_closing _ _ _ (exclude_shape p v hp hv) = refl
shape_no_closing _ _ _ (path_by_file p a f hp ha hf) = refl
shape_no_closing _ _ _ (path_by_version p a q w hp ha hq hw) = refl
shape_no_closing _ _ _ (version_by_file p v a f hp hv ha hf) = refl
shape_no_closing _ _ _ (version_by_version p v a q w hp hv ha hq hw) = refl
shape_no_closing _ _ _ (retract_version v hv) = word_kind_closes v.kind hv
shape_no_closing _ _ _ (retract_interval l v c w r hl hv hc hw hr) = refl

-- a keyword is spelled as it is named
pub named_spelling : (known : Keywords) (name : List ℕ) (k : Keyword) → keyword_named known name ≡ Some k
    → name ≡ spelling k
unfolding keyword_named
named_spelling [] name k h = cc
named_spelling (j ∷ js) name k h =
    ⊎_elim
    (λ p. (bytes_eq-Decides name (spelling j)).0 p.0 ∙ ap spelling (let same = p.1 in cc))
    (λ p. named_spelling js name k p.1)
    (chosen (bytes_eq name (spelling j)) _ _ _ h)
