-- The inner allocator frees its block. No block stands at null, so the pointer is one to a block.
-- The names are those of the walk of `allocate`. Assumes `Logic`.
use Rattle.std.proofs.Common.{◌≡◌, ℕ, ◌+◌, List, [], ◌∷◌, refl, w64}
use mir.Syntax.{Args, Fn, a_type, dnil, dcons}
use mir.Val.{Val, vunit}
use base.Logic.{fst∗, id⊢, never}
use base.Fml.{ftrue, flft}
use prog.Memory.{align, up}
use types.Run.{unit_lit, of_opd, addr, fld, stop, enter, no_more, and_then, returns}
use types.ByLocal.{alloc_all, pass_all, free_all, look_at, get, through, sets, lands_as}
use types.Kit.{Item, prop, ‵, raw, later, given, ◌⊛◌, ◌$◌, ◌∵◌, !, qed, done, move, keep, use1}
use types.Kit.{use2, split, split3, join, fsplit, fjoin, feq_i, learn, await, regoal, suffices}
use contract.BorrowLft.{◌⊑◌, ⊑_trans}
use contract.Monad.{fact}
use contract.Running.{tables, tables_of}
use denote.Builtin.{usize, RawPtr, RefOf}
use denote.Exit.{yes}
use denote.Param.{bounded, param}
use denote.RattleType.{owns}
use denote.RawPtr.{Ptr, block_ptr, null_ptr, in_a_block, rawptr_vals, rawptr_Tells}
use denote.Plain.{uint_vals, uint_Tells}
use denote.Ref.{shr_vals}
use denote.Signature.{Slot, plain, types_at}
use denote.Steps.{heard, nothing}
use denote.Triple.Walked.{Stays, stay_dropped, Goes-dropped, walk_of}
use Rattle.std.{specs.Allocator.{HasLayout, owned_block}, proofs.raw_atomic.Walks.{leaves, proved}}
use Rattle.std.proofs.alloc.Calls.{Al, α, seen, token, Gives, at_gives, Gives-goes, Gives-Gives}
use Rattle.cfgx_testing.specs.contracts.refusing.Refusing as refusing
use Rattle.cfgx_testing.specs.contracts.refusing.RefusingAllocator.deallocate as f
use Rattle.cfgx_testing.proofs.refusing.RefusingAllocator.deallocate.Statement.{statement}
use Rattle.cfgx_testing.proofs.refusing.RefusingAllocator.deallocate.Code as code

pub deallocate_spec : {M : Type 1} → statement M
unfolding tables_of
deallocate_spec 𝓤 𝓛 𝓜 𝓡 wired row laws g d drops met dropped =
    let Z : Al = record { row = row; laws = laws; g = g; d = d; drops = drops } in
    let T = f.ended row g d drops in let c = f.clauses row g d drops 𝓛 𝓜.mem 𝓡.returns in
    let self : Slot 2 = RefOf (0 ∷ []) tt (plain (λ _. refusing.the_row (param 0 row))) (λ _. tt) in
    let spent : Stays T.signature.params T.kept =
    (stay_dropped self yes, (stay_dropped _ yes, (stay_dropped _ yes, (stay_dropped _ yes, tt)))) in
    let W = walk_of 𝓛 T spent c in
    let 𝓣 = tables_of 𝓤 𝓛.H 𝓜 (tables 𝓤 𝓛.H 𝓜 𝓡 𝓡.env) in
    let args : Args = bounded (a_type ∷ []) (row, tt) (dcons d (dcons drops dnil)) in
    let function : Fn = mir.MapTy.inst_fn args code.function in
    let goes = Goes-dropped 𝓛 2 (plain (λ _. usize)) yes (λ κs x f. refl) in
    let ptr_goes = Goes-dropped 𝓛 2 (plain (λ _. RawPtr)) yes (λ κs x f. refl) in
    let vals = uint_vals w64 in let tells = uint_Tells w64 in proved 𝓛 T spent c 𝓜 𝓡
    (Goes-dropped 𝓛 2 self yes (λ κs x f. refl), (ptr_goes, (goes, (goes, tt))))
    (f.Key.name args) function (code.unfolded 𝓤 𝓛.H 𝓜 𝓡 wired (row, tt) d drops)
    (λ κs. (shr_vals, (rawptr_vals, (vals, (vals, tt)))))
    (λ κs. ((λ r vs is. is.0), (rawptr_Tells, (tells, (tells, tt))))) (λ κs qs bounds a τ are.
    let κ = κs.0 in let q = qs.0 in let h = a.0.now.inner in let n = a.1.1.0 in
    let al = a.1.1.1.0 in let n_fits = are.1.1.0.1 in let al_fits = are.1.1.1.0.1 in
    let at = a.0.ref_ptr in let p : ℕ × ℕ = (at.0, at.1 + up (align (α Z)) 0) in
    let y : Ptr → W.Ghost = λ ptr. let us = shr_vals a.0 in
    ((κs, qs, bounds, (a.0, (ptr, a.1.1)), (us, (rawptr_vals ptr, (vals n, (vals al, tt))))), τ) in
    let beyond : Item 𝓤 = ‵ (flft κs.1.0 qs.1.0) ⊛ ‵ ftrue in
    let block = owned_block (token Z h) τ in
    qed 𝓛 (((‵ (flft κ q) ⊛ beyond) ⊛ ‵ (owns (types_at T.signature.params κs) a (y a.1.0).0.4)) ∷
    (raw (fact 𝓤 (κs.1.0 ⊑ row.lives)) ⊛ raw (fact 𝓤 (HasLayout τ n al)) ⊛ ‵ (block a.1.0)) ∷ []) ∵
    move ! (1 ∷ []) $ split3 ! $ heard ! _ (λ lives. heard ! _ (λ layout. in_a_block ! a.1.0 block
    (fst∗ 𝓤 (never 𝓤) (types.Logic.sem 𝓛 (token Z h τ null_ptr))) (λ b o is.
    regoal ! (λ (ptr : Ptr). prop (prog.Wp.WpFn 𝓤 𝓛.H 𝓣.C 𝓣.Λ function (W.args (y ptr))
    (W.post (y ptr)))) is refl $ move ! (1 ∷ []) $ split ! $ split ! $ move ! (2 ∷ []) $
    fsplit ! $ fsplit ! $ move ! (1 ∷ []) $ denote.Opens.unhide ! $ fsplit ! $ fsplit ! $
    -- [the inner allocator; a token; the other token; the block]
    use1 𝓛 (‵ (seen Z κ p h)) (id⊢ 𝓤 _) $ keep ! (0 ∷ 5 ∷ 6 ∷ 7 ∷ []) $
    enter ! 𝓣.C 𝓣.Λ function _ _ $ alloc_all ! (λ l. pass_all ! refl (
      (tt, tt),
      ((tt, tt), ((tt, record { fits = n_fits }), ((tt, record { fits = al_fits }), tt))),
    ) $
    sets ! (addr ! (through ! refl (fld ! refl (stop !)))) refl (tt, tt) $
    let gives = Gives Z 𝓛 𝓜.mem 𝓡.returns in
    let x = at_gives Z 𝓛 𝓜.mem 𝓡.returns κ q p h b o n al τ in
    join ! $ move ! (2 ∷ []) $ fsplit ! $ move ! (1 ∷ 2 ∷ []) $ join ! $ move ! (1 ∷ 0 ∷ []) $
    use2 𝓛 (raw (gives.pre x)) (Gives-goes Z 𝓛 𝓜.mem 𝓡.returns κ q p h
    (⊑_trans κ κs.1.0 row.lives bounds.0 lives) b o n al τ layout.0 layout.1 n_fits al_fits) $
    denote.Triple.Call.calls_at ! (sound.WpLaws.fm_of 𝓤 𝓛.H 𝓛.laws 𝓣) gives (met.deallocate drops)
    x (and_then ! (get ! refl) (and_then ! (get ! refl)
    (and_then ! (get ! refl) (and_then ! (get ! refl) (no_more !))))) (λ v.
    use1 𝓛 (later (given (v ≡ vunit) (‵ (flft κ q))))
    (Gives-Gives Z 𝓛 𝓜.mem 𝓡.returns κ q p h b o n al τ v) $ await ! tt $ learn ! (λ is.
    lands_as ! is refl (tt, tt) $ sets ! (of_opd ! (unit_lit !)) refl (tt, tt) $
    returns ! (look_at ! 0 refl) $ free_all ! refl $
    suffices ! _ (leaves 𝓛 T spent c (y (block_ptr b o)) vunit tt (tt, (tt, (tt, (tt, tt))))
    (tt, (tt, (tt, (tt, tt))))) $
    nothing ! $ feq_i ! (List Val) (vunit ∷ []) _ refl $ join ! $ nothing ! $ nothing ! $
    fjoin ! $ nothing ! $ fjoin ! $ nothing ! $ fjoin ! $ nothing ! $ fjoin ! $ join ! $
    move ! (1 ∷ 2 ∷ []) $ join ! $ done !)))))))
