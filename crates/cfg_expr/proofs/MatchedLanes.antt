-- Answers that are put into lanes, from the last row to the first.
use Rattle.std.proofs.Common.{◌≡◌, ◌∙◌, ◌++◌, zero, suc, Bool, Some, List, [], ◌∷◌, length, map, ap}
use Rattle.std.proofs.Common.{refl, sym, arith, append_assoc, append-nil}
use Rattle.std.specs.List.{slice_get}
use Rattle.std.proofs.lemmas.List.{nil_from_length}
use Rattle.std.proofs.lemmas.Nat.Bits.{bit_at-zero}
use Rattle.cfgx_syntax.specs.Kleene.{EachLane, Planes, behind, lane}

-- the lanes are the answers of the rows behind those that are left
pub record Put {T : Type 0} (answer : T → Bool) (rows left : List T) (planes : Planes) : Type 0
  where
    pub done : List T
    pub rows_are : rows ≡ left ++ done
    pub lanes_are : EachLane planes (slice_get (map answer done))

module _ {T : Type 0} (answer : T → Bool) where
  -- at first all rows are left
  pub Put-none : (rows : List T) → Put answer rows rows (record { is_true = 0; is_false = 0 })
  Put-none rows = record {
    done = [];
    rows_are = sym (append-nil rows);
    lanes_are = λ i below. rw bit_at-zero refl;
  }

  -- the answer of the last row that is left
  pub Put-more : (rows left before : List T) (row : T) (known : Bool) (planes more : Planes)
      → left ≡ before ++ row ∷ [] → known ≡ answer row
      → EachLane more (behind (Some known) (λ i. lane i planes))
      → Put answer rows left planes → Put answer rows before more
  Put-more rows left before row known planes more left_is known_is lanes put = record {
    done = row ∷ put.done;
    rows_are = put.rows_are ∙ ap (λ xs. xs ++ put.done) left_is
        ∙ append_assoc before (row ∷ []) put.done;
    lanes_are = more_lanes;
  } where
    more_lanes : EachLane more (slice_get (map answer (row ∷ put.done)))
    more_lanes zero below = lanes zero below ∙ ap Some known_is
    more_lanes (suc i) below = lanes (suc i) below ∙ put.lanes_are i (omega arith)

  -- in the end no row is left
  pub Put-end : (rows left : List T) (planes : Planes) → length left ≡ 0
      → Put answer rows left planes → EachLane planes (slice_get (map answer rows))
  Put-end rows left planes none put =
      rw (put.rows_are, nil_from_length left none) put.lanes_are
