-- `GivesAll` item by item.
use Rattle.std.proofs.Common.{◌≡◌, List, [], ◌∷◌, ◌++◌, Result, Ok, Err, MatchResult, refl, ap}
use Rattle.std.specs.List.{AllZip}
use Rattle.cfgx_engine.specs.Readings.{FirstFails, GivesAll}

module _ {X T E : Type 0} (Gives : X → Result T E → Type 0) where
  -- the first item of a list fails
  pub first_fails : (item : X) (others : List X) (error : E) → Gives item (Err error)
      → FirstFails Gives (item ∷ others) error
  first_fails item others error fails = record {
    before = [];
    values = [];
    item = item;
    after = others;
    whole = refl;
    give = tt;
    fails = fails;
  }

  -- the first item that fails is a later one
  pub later_fails : (item : X) (value : T) (others : List X) (error : E) → Gives item (Ok value)
      → FirstFails Gives others error → FirstFails Gives (item ∷ others) error
  later_fails item value others error gives found = record {
    before = item ∷ found.before;
    values = value ∷ found.values;
    item = found.item;
    after = found.after;
    whole = ap (λ rest. item ∷ rest) found.whole;
    give = (gives, found.give);
    fails = found.fails;
  }

  -- a value before others, or the error of the others
  abbrev pub value_then : T → Result (List T) E → Result (List T) E
  value_then value (Ok values) = Ok (value ∷ values)
  value_then value (Err error) = Err error

  -- `GivesAll`, by recursion on the items
  abbrev pub GivesEach : List X → Result (List T) E → Type 0
  GivesEach [] result = result ≡ Ok []
  GivesEach (item ∷ others) result = (first : Result T E) × Gives item first
      × MatchResult first (λ value. (rest : Result (List T) E) × GivesEach others rest
      × (result ≡ value_then value rest)) (λ error. result ≡ Err error)

  each-fails : (before : List X) (values : List T) (item : X) (after : List X) (error : E)
      → AllZip (λ one value. Gives one (Ok value)) before values → Gives item (Err error)
      → GivesEach (before ++ item ∷ after) (Err error)
  each-fails [] [] item after error given fails = (Err error, fails, refl)
  each-fails (first ∷ before) (value ∷ values) item after error given fails =
      let rest = each-fails before values item after error given.1 fails in
      (Ok value, given.0, (Err error, rest, refl))
  each-fails _ _ item after error given fails = absurd given

  each-gives : (items : List X) (values : List T)
      → AllZip (λ item value. Gives item (Ok value)) items values → GivesEach items (Ok values)
  each-gives [] [] given = refl
  each-gives (item ∷ items) (value ∷ values) given =
      (Ok value, given.0, (Ok values, each-gives items values given.1, refl))
  each-gives _ _ given = absurd given

  pub GivesEach-all : (items : List X) (result : Result (List T) E) → GivesAll Gives items result
      → GivesEach items result
  GivesEach-all items (Ok values) gives = each-gives items values gives
  GivesEach-all items (Err error) found = rw found.whole (each-fails found.before found.values
      found.item found.after error found.give found.fails)
