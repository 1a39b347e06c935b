-- An empty body. The borrow is opened and closed at another ghost value.
use Rattle.std.proofs.Common.{ℕ, List, [], ◌∷◌, ◌++◌, refl, MutBor, ◌<◌, ◌^◌, length}
use seplogic.Ra.Ura.{Ura}
use mir.Syntax.{named, a_type, Fn}
use mir.MapTy.{inst_fn}
use mir.Val.{Val, vunit, vptr}
use base.Logic.{SProp, ent, sep, emp, via, fst∗, id⊢}
use base.Fml.{GName, Lft, Share, ftrue, flft, fobs, fbor}
use prog.Memory.{Memory}
use prog.Routine.{Routine}
use prog.Wp.{Calls, Loops, WpFn, Tables}
use types.Logic.{Logic}
use contract.Monad.{Fun}
use contract.Running.{tables, tables_of}
use contract.Lifetimes.{AllOutlive}
use types.Kit.{‵, ◌⊛◌, ◌$◌, ◌∵◌, !, qed, by, move, keep, drop, use1, split, join, fsplit, fsplit3, fjoin, fjoin3, feq_i}
use types.Kit.{suffices, frame, done}
use types.Run.{unit_lit, of_opd, returns, enter}
use types.SemTy.{Body}
use types.ByLocal.{alloc_all, pass_all, free_all, look_at, sets}
use sound.WpLaws.{WpFn-mono}
use denote.RattleType.{RattleType, owns}
use denote.Param.{param, layouts}
use denote.Memory.{mem}
use denote.Ref.{Bor, MutRef, mut_vals, mut_Tells, ShrRef, shr_vals, shr_Tells}
use denote.Builtin.{u8}
use denote.Slice.{ShrSlice, slice_val, shr_slice_vals, shr_slice_Tells}
use denote.Exit.{yes}
use denote.Signature.{plain}
use denote.Steps.{opens, closes}
use denote.Triple.Entry.{on_entry}
use denote.Triple.Spec.{Meets, triple_of}
use denote.Triple.Table.{entered}
use denote.Triple.Walked.{says, Stays, stay_ref, stay_none_ref, stay_none_slice, walk_of, AllGo, Goes-ref}
use denote.Triple.Walked.{Goes-none_ref, Goes-none_slice, Walks, ends_at, walked, walk_Meets}
use Rattle.store_files.specs.contracts.record.Record as T
use Rattle.store_files.specs.contracts.record.Record.note.Key.{name as #it}
use Rattle.store_files.specs.contracts.record.Record.note as it
use Rattle.store_files.proofs.record.Record.note.Statement as stated
use Rattle.store_files.proofs.record.Record.note.Code as code

module _ (D : RattleType) where
  abbrev R : RattleType
  R = param 0 D

  abbrev Row : RattleType
  Row = T.the_row R

  abbrev fn : Fn
  fn = inst_fn (layouts (a_type ∷ []) (D, tt)) code.function

  abbrev Arg : Type 0
  Arg = MutBor Row.Denot × (Bor (List ℕ) × (Bor R.Denot × Unit {0}))

  abbrev stayed : Stays (it.ended D).signature.params (it.ended D).kept
  stayed = (
    stay_ref (0 ∷ []) tt (plain (λ _. Row)),
    (stay_none_slice (1 ∷ []) tt (plain (λ _. u8)) yes, (stay_none_ref (2 ∷ []) tt (plain (λ _. R)) yes, tt)),
  )

  module _ {M : Type 1} {𝓤 : Ura M} (𝓛 : Logic 𝓤) (at_mem : Memory → SProp 𝓤) (run : Routine → Fun 𝓤)
      (κ κ' κ'' κs : Lft) (q q' q'' qs : Share)
      (out : AllOutlive 4 (it.signature D).outlives (κ, (κ', (κ'', (κs, tt))))) (b o : ℕ) (γ : GName) (h : Row.Denot)
      (n : Bor (List ℕ)) (s : Bor R.Denot) where
    open 𝓛 use {H, A}

    abbrev x : Arg
    x = (record { ref_ptr = (b, o); ghost_name = γ; now = h }, (n, (s, tt)))

    abbrev h' : Row.Denot
    h' = record { marker = h.marker; deeds = h.deeds ++ (n.now, s.now) ∷ [] }

    abbrev at : List Val × (List Val × (List Val × Unit {0}))
    at = (vptr b o ∷ [], (slice_val n.ref_ptr (length n.now) ∷ [], (shr_vals s, tt)))

    abbrev rest : base.Fml.Fml
    rest = owns (ShrSlice (named 1) κ' u8 ∷ ShrRef (named 2) κ'' R ∷ []) x.1 at.1

    abbrev Post : Val → SProp 𝓤
    Post = (walk_of 𝓛 (it.ended D) stayed (it.clauses D 𝓛 at_mem run)).post
        (((κ, (κ', (κ'', (κs, tt)))), (q, (q', (q'', (qs, tt)))), out, x, at), tt)

    exits : ent 𝓤 (sep 𝓤 (A.obs γ (Row.coded.code h'))
        (sep 𝓤 (A.bor κ (Body (mem Row) b o γ))
        (sep 𝓤 (A.lft κ q) (sep 𝓤 (types.Logic.sem 𝓛 rest)
        (sep 𝓤 (A.lft κ' q') (sep 𝓤 (A.lft κ'' q'') (sep 𝓤 (A.lft κs qs) (emp 𝓤)))))))) (Post vunit)
    exits =
        qed 𝓛 (‵ (fobs γ (Row.coded.code h')) ∷ ‵ (fbor κ (Body (mem Row) b o γ)) ∷ ‵ (flft κ q) ∷ ‵ rest
        ∷ (‵ (flft κ' q') ⊛ (‵ (flft κ'' q'') ⊛ (‵ (flft κs qs) ⊛ ‵ ftrue))) ∷ []) ∵
        suffices ! _ (ends_at 𝓛 (it.ended D) stayed (it.clauses D 𝓛 at_mem run)
        (((κ, (κ', (κ'', (κs, tt)))), (q, (q', (q'', (qs, tt)))), out, x, at), tt) vunit tt (h', (tt, (tt, tt)))
        (tt, (tt, (tt, tt)))) $ says ! refl $ move ! (2 ∷ 4 ∷ []) $ join ! $
        frame ! $ feq_i ! (List Val) (vptr b o ∷ []) (vptr b o ∷ []) refl $ fjoin3 ! $ fjoin ! $
        feq_i ! (List Val) (vunit ∷ []) (vunit ∷ []) refl $ move ! (1 ∷ 0 ∷ []) $ done !

    module _ (C : Calls 𝓤 H) (Λ : Loops 𝓤 H) where
      walk : length n.now < 2 ^ 64
          → ent 𝓤 (on_entry 𝓛 (it.signature D) (κ, (κ', (κ'', (κs, tt)))) (q, (q', (q'', (qs, tt)))) x at)
          (WpFn 𝓤 H C Λ fn (vptr b o ∷ slice_val n.ref_ptr (length n.now) ∷ shr_vals s) Post)
      walk fits =
          qed 𝓛 ((‵ (flft κ q) ⊛ (‵ (flft κ' q') ⊛ (‵ (flft κ'' q'') ⊛ (‵ (flft κs qs) ⊛ ‵ ftrue))))
          ∷ ‵ (owns (MutRef (named 0) κ Row ∷ ShrSlice (named 1) κ' u8 ∷ ShrRef (named 2) κ'' R ∷ []) x at) ∷ []) ∵
          split ! $ move ! (2 ∷ []) $ fsplit ! $ fsplit3 ! $ drop ! $ move ! (0 ∷ 1 ∷ 3 ∷ []) $
          enter ! C Λ fn (vptr b o ∷ slice_val n.ref_ptr (length n.now) ∷ shr_vals s) _ $
          alloc_all ! (λ l. pass_all ! refl ((tt, tt), ((tt, (tt, (record { fits = fits }, tt))), ((tt, tt), tt))) $
          move ! (0 ∷ 1 ∷ 2 ∷ []) $ opens ! tt Row {h = h} b o (λ vs.
          sets ! (of_opd ! (unit_lit !)) refl (tt, tt) $
          move ! (1 ∷ []) $ use1 𝓛 (‵ (Row.own_val h' vs)) (id⊢ 𝓤 _) $ move ! (1 ∷ 0 ∷ []) $ closes ! tt Row h' vs b o $
          returns ! (look_at ! 0 refl) $ free_all ! refl $
          keep ! (0 ∷ 1 ∷ 2 ∷ 3 ∷ 4 ∷ []) $ by ! exits))

  module _ {M : Type 1} {𝓤 : Ura M} (𝓛 : Logic 𝓤) (at_mem : Memory → SProp 𝓤) (run : Routine → Fun 𝓤) where
    open 𝓛 use {H}

    walks : (C : Calls 𝓤 H) (Λ : Loops 𝓤 H) → Walks 𝓛 (it.ended D) stayed (WpFn 𝓤 H C Λ fn) (it.clauses D 𝓛 at_mem run)
    walks C Λ = walked 𝓛 (it.ended D) stayed (it.clauses D 𝓛 at_mem run) (WpFn 𝓤 H C Λ fn)
        (λ κs. (mut_vals, (shr_slice_vals, (shr_vals, tt))))
        (λ κs. (
          mut_Tells (named 0) κs.0 Row,
          (shr_slice_Tells (named 1) κs.1.0 u8, (shr_Tells (named 2) κs.1.1.0 R, tt)),
        ))
        (λ κs qs bounds a g are.
        via 𝓤 _ (fst∗ 𝓤 _ ((it.clauses D 𝓛 at_mem run κs a).requires g))
        (walk 𝓛 at_mem run κs.0 κs.1.0 κs.1.1.0 κs.1.1.1.0 qs.0 qs.1.0 qs.1.1.0 qs.1.1.1.0 bounds a.0.ref_ptr.0
        a.0.ref_ptr.1 a.0.ghost_name a.0.now a.1.0 a.1.1.0 C Λ are.1.0.0.1.0))

    goes : AllGo 𝓛 4 (it.signature D).params (it.ended D).kept stayed
    goes = (
      Goes-ref 𝓛 4 0 tt (plain (λ _. Row)),
      (
        Goes-none_slice 𝓛 4 (1 ∷ []) tt (plain (λ _. u8)) yes,
        (Goes-none_ref 𝓛 4 (2 ∷ []) tt (plain (λ _. R)) yes, tt),
      ),
    )

  meets : {M : Type 1} {𝓤 : Ura M} (𝓛 : Logic 𝓤)
      → (at_mem : Memory → SProp 𝓤) (run : Routine → Fun 𝓤) (𝓣 : Tables 𝓤 𝓛.H)
      → Meets 𝓛 (it.signature D) (WpFn 𝓤 𝓛.H 𝓣.C 𝓣.Λ fn) (it.spec D 𝓛 at_mem run)
  meets {𝓤 = 𝓤} 𝓛 at_mem run 𝓣 =
      walk_Meets 𝓛 (it.ended D) stayed (goes 𝓛 at_mem run) (it.clauses D 𝓛 at_mem run) (WpFn 𝓤 𝓛.H 𝓣.C 𝓣.Λ fn)
      (WpFn-mono 𝓤 𝓛.H 𝓛.laws 𝓣 fn) (walks 𝓛 at_mem run 𝓣.C 𝓣.Λ)

pub note_spec : {M : Type 1} → stated.statement M
unfolding tables_of
note_spec 𝓤 𝓛 𝓜 𝓡 wired D _ =
    entered 𝓤 𝓛.H (triple_of 𝓛 (it.signature D) (it.spec D 𝓛 𝓜.mem 𝓡.returns))
    (tables 𝓤 𝓛.H 𝓜 𝓡 𝓡.env).C (tables 𝓤 𝓛.H 𝓜 𝓡 𝓡.env).Λ (#it (layouts (a_type ∷ []) (D, tt))) (fn D)
    (code.unfolded 𝓤 𝓛.H 𝓜 𝓡 wired (D, tt))
    (meets D 𝓛 𝓜.mem 𝓡.returns (tables_of 𝓤 𝓛.H 𝓜 (tables 𝓤 𝓛.H 𝓜 𝓡 𝓡.env)))
