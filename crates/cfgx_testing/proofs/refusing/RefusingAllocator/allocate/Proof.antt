-- A growth that ends the countdown is refused. Any other growth returns what the inner allocator
-- returns. The walk reaches both fields behind `self` directly. `h` is the inner allocator, `p` its
-- address, and `n` and `al` are the size and the alignment of the block. `beyond` is used at the
-- end only. Assumes `Logic`.
use Rattle.std.proofs.Common.{ℕ, ◌+◌, Bool, true, false, List, [], ◌∷◌, Ok, Err, refl, ap, w64}
use Rattle.std.{proofs.Common.Bor, proofs.alloc.Calls.Takes-gives}
use mir.Syntax.{Args, Fn, a_type, dnil, dcons}
use mir.Val.{Val}
use base.Logic.{id⊢}
use base.Fml.{ftrue, fsep, flft}
use prog.Memory.{align, size, up}
use types.Part.{agg}
use types.Run.{lit, addr, fld, stop, enter, no_more, and_then, first, branches, skips, exec}
use types.Run.{returns, returns_within}
use types.ByLocal.{alloc_all, pass_all, free_all, look_at, get, through, sets, lands_as, env}
use types.Kit.{Item, Sq, prop, at_ret, ‵, raw, some, later, ◌⊛◌, ◌$◌, ◌∵◌, !, qed, done, move}
use types.Kit.{drop, keep, use0, use1, use2, split, join, fsplit, fjoin, feq_i, feq_l, pick, await}
use types.Kit.{suffices}
use contract.BorrowLft.{◌⊑◌, ⊑_trans}
use contract.Monad.{fact}
use contract.Running.{tables, tables_of}
use denote.Builtin.{bool, usize, RefOf}
use denote.Exit.{yes}
use denote.Param.{bounded, param}
use denote.RattleType.{owns}
use denote.RawPtr.{block_ptr}
use denote.Plain.{uint_vals, uint_Tells}
use denote.Ref.{shr_vals}
use denote.Signature.{Slot, plain, types_at}
use denote.Steps.{heard, nothing, only}
use denote.Triple.Call.{calls_at}
use denote.Triple.Walked.{Stays, stay_dropped, Goes-dropped, walk_of}
use Rattle.std.{specs.Allocator.{HasLayout, block_if_ok}, proofs.raw_atomic.Walks.{leaves, proved}}
use Rattle.std.proofs.alloc.Calls.{Al, α, seen, token, Answer, answer_val, Answer-typed, Answer-Ok}
use Rattle.std.proofs.alloc.Calls.{Answer-err, Answered, answers, Takes, at_takes, Takes-goes}
use Rattle.cfgx_testing.specs.contracts.refusing.Refusing as refusing
use Rattle.cfgx_testing.specs.contracts.refusing.ends_countdown as ending
use Rattle.cfgx_testing.proofs.refusing.ends_countdown.Met as ending_met
use Rattle.cfgx_testing.specs.contracts.refusing.RefusingAllocator.allocate as f
use Rattle.cfgx_testing.proofs.refusing.RefusingAllocator.allocate.Statement.{statement}
use Rattle.cfgx_testing.proofs.refusing.RefusingAllocator.allocate.Code as code

pub allocate_spec : {M : Type 1} → statement M
unfolding tables_of
allocate_spec 𝓤 𝓛 𝓜 𝓡 wired row laws g d drops met dropped =
    let Z : Al = record { row = row; laws = laws; g = g; d = d; drops = drops } in
    let T = f.ended row g d drops in let c = f.clauses row g d drops 𝓛 𝓜.mem 𝓡.returns in
    let self : Slot 2 = RefOf (0 ∷ []) tt (plain (λ _. refusing.the_row (param 0 row))) (λ _. tt) in
    let spent : Stays T.signature.params T.kept =
    (stay_dropped self yes, (stay_dropped _ yes, (stay_dropped _ yes, tt))) in
    let W = walk_of 𝓛 T spent c in
    let 𝓣 = tables_of 𝓤 𝓛.H 𝓜 (tables 𝓤 𝓛.H 𝓜 𝓡 𝓡.env) in
    let frames = sound.WpLaws.fm_of 𝓤 𝓛.H 𝓛.laws 𝓣 in
    let args : Args = bounded (a_type ∷ []) (row, tt) (dcons d (dcons drops dnil)) in
    let function : Fn = mir.MapTy.inst_fn args code.function in
    let goes = Goes-dropped 𝓛 2 (plain (λ _. usize)) yes (λ κs x f. refl) in
    let vals = uint_vals w64 in let tells = uint_Tells w64 in
    proved 𝓛 T spent c 𝓜 𝓡 (Goes-dropped 𝓛 2 self yes (λ κs x f. refl), (goes, (goes, tt)))
    (f.Key.name args) function (code.unfolded 𝓤 𝓛.H 𝓜 𝓡 wired (row, tt) d drops)
    (λ κs. (shr_vals, (vals, (vals, tt)))) (λ κs. ((λ r vs is. is.0), (tells, (tells, tt))))
    (λ κs qs bounds a τ are.
    let κ = κs.0 in let q = qs.0 in let h = a.0.now.inner in let n = a.1.0 in let al = a.1.1.0 in
    let n_fits = are.1.0.1 in let al_fits = are.1.1.0.1 in
    let at = a.0.ref_ptr in let p : ℕ × ℕ = (at.0, at.1 + up (align (α Z)) 0) in
    let y : W.Ghost = ((κs, qs, bounds, a, (shr_vals a.0, (vals n, (vals al, tt)))), τ) in
    let beyond : Item 𝓤 = ‵ (flft κs.1.0 qs.1.0) ⊛ ‵ ftrue in
    let ends : (v : Val) (r : Answer.Denot) → Sq 𝓛 (‵ (Answer.own_val r (v ∷ [])) ∷
    ‵ (block_if_ok (token Z h) τ r) ∷ ‵ (flft κ q) ∷ beyond ∷ []) (prop (W.post y v)) = λ v r.
    suffices ! _ (leaves 𝓛 T spent c y v r (tt, (tt, (tt, tt))) (tt, (tt, (tt, tt)))) $ join ! $
    nothing ! $ nothing ! $ fjoin ! $ nothing ! $ fjoin ! $ nothing ! $ fjoin ! $ join ! $
    move ! (1 ∷ 2 ∷ []) $ join ! $ done ! in
    let refused : Sq 𝓛 (‵ (flft κ q) ∷ beyond ∷ []) (prop (W.post y (answer_val false 0 0))) =
    nothing ! $ use0 𝓛 (‵ (Answer.own_val (Err (record {})) (answer_val false 0 0 ∷ [])))
    (Answer-err 𝓛) $ ends _ (Err (record {})) in
    qed 𝓛 (((‵ (flft κ q) ⊛ beyond) ⊛ ‵ (owns (types_at T.signature.params κs) a y.0.4)) ∷
    (raw (fact 𝓤 (κs.1.0 ⊑ row.lives)) ⊛ raw (fact 𝓤 (HasLayout τ n al))) ∷ []) ∵
    move ! (1 ∷ []) $ split ! $ heard ! _ (λ lives. heard ! _ (λ layout. split ! $ split ! $
    move ! (2 ∷ []) $ fsplit ! $ fsplit ! $ move ! (1 ∷ []) $ denote.Opens.unhide ! $ fsplit ! $
    fsplit ! $ use1 𝓛 (‵ (seen Z κ p h)) (id⊢ 𝓤 _) $ move ! (1 ∷ []) $ fsplit ! $
    -- [the countdown; a token; the inner allocator; the other token]
    keep ! (0 ∷ 6 ∷ 2 ∷ 7 ∷ []) $ enter ! 𝓣.C 𝓣.Λ function _ _ $ alloc_all ! (λ l.
    pass_all ! refl
    ((tt, tt), ((tt, record { fits = n_fits }), ((tt, record { fits = al_fits }), tt))) $
    sets ! (addr ! (through ! refl (fld ! refl (stop !)))) refl (tt, tt) $
    let counts = denote.Triple.Spec.triple_of 𝓛 ending.signature (ending.spec 𝓛 𝓜.mem 𝓡.returns) in
    let cell : Bor _ = record {
      ref_ptr = (at.0, at.1 + up 8 (up (align (α Z)) 0 + size (α Z)));
      now = a.0.now.countdown;
    } in
    let z : counts.Ghost = (((κ, tt), (q, tt), tt, (cell, tt), (shr_vals cell, tt)), tt) in
    feq_i ! (List Val) (shr_vals cell) _ refl $ fjoin ! $ nothing ! $ move ! (1 ∷ []) $ fjoin ! $
    nothing ! $ move ! (2 ∷ []) $ join ! $ join ! $ nothing ! $ move ! (1 ∷ []) $
    use2 𝓛 (raw (counts.pre z)) (id⊢ 𝓤 _) $ calls_at ! frames counts
    (ending_met.met 𝓤 𝓛 𝓜 𝓡 (code.calls-cfgx_testing::refusing::ends_countdown 𝓡.env wired)) z
    (and_then ! (get ! refl) (no_more !)) (λ v. use1 𝓛 (later (some (λ (ended : Bool).
    ((‵ (flft κ q) ⊛ ‵ ftrue) ⊛ ‵ (bool.own_val ended (v ∷ []))) ⊛
    some (λ (last : Unit {0} × Unit {0}). ‵ (fsep ftrue ftrue) ⊛ ‵ ftrue)))) (id⊢ 𝓤 _) $
    await ! tt $ pick ! (λ ended. split ! $ move ! (1 ∷ []) $ drop ! $ split ! $ split ! $
    move ! (1 ∷ []) $ drop ! $ move ! (1 ∷ []) $ feq_l ! (λ is.
    lands_as ! (ap only is) refl (tt, tt) $ first ! $ branches ! (get ! refl)
    (λ is_last. sets ! (agg ! (no_more !)) refl (tt, tt) $
    sets ! (agg ! (and_then ! (lit ! tt) (and_then ! (get ! refl) (no_more !)))) refl
    (Answer-typed false 0 0) $ returns_within ! (W.post y) refl (look_at ! 0 refl) $
    free_all ! refl $ move ! (1 ∷ []) $ drop ! $ refused)
    (λ goes_on. skips ! $ exec ! 𝓣.C 𝓣.Λ (env function.locals l)
    (Rattle.std.proofs.alloc.Shapes.after 3 function.body) (at_ret _ (W.post y)) $
    sets ! (addr ! (through ! refl (fld ! refl (stop !)))) refl (tt, tt) $
    let takes = Takes Z 𝓛 𝓜.mem 𝓡.returns in
    let x = at_takes Z 𝓛 𝓜.mem 𝓡.returns κ q p h n al τ in
    move ! (1 ∷ []) $ use2 𝓛 (raw (takes.pre x)) (Takes-goes Z 𝓛 𝓜.mem 𝓡.returns κ q p h
    (⊑_trans κ κs.1.0 row.lives bounds.0 lives) n al τ layout.0 layout.1 n_fits al_fits) $
    calls_at ! frames takes (met.allocate drops) x
    (and_then ! (get ! refl) (and_then ! (get ! refl) (and_then ! (get ! refl) (no_more !)))) (λ v.
    use1 𝓛 (later (raw (Answered Z 𝓛 𝓜.mem 𝓡.returns h τ v) ⊛ ‵ (flft κ q)))
    (Takes-gives Z 𝓛 𝓜.mem 𝓡.returns κ q p h n al τ v) $ await ! tt $ split ! $
    answers Z ! 𝓜.mem 𝓡.returns h τ v
    (λ b o is. fjoin ! $ lands_as ! is refl (Answer-typed true b o) $
    returns ! (look_at ! 0 refl) $ free_all ! refl $
    use0 𝓛 (‵ (Answer.own_val (Ok (block_ptr b o)) (answer_val true b o ∷ []))) (Answer-Ok 𝓛 b o) $
    ends _ (Ok (block_ptr b o)))
    (λ is. lands_as ! is refl (Answer-typed false 0 0) $ returns ! (look_at ! 0 refl) $
    free_all ! refl $ refused))))))))))
