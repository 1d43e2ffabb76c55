-- Answers that may be unknown.
-- Source: the strong three-valued logic of S. C. Kleene, Introduction to Metamathematics (1952),
-- section 64: true, false and unknown are here `Some true`, `Some false` and `None`.
use Rattle.std.specs.Prelude.{Bool, true, false, Option, Some, None}

abbrev pub kleene_and : Option Bool → Option Bool → Option Bool
kleene_and (Some true) (Some true) = Some true
kleene_and (Some true) (Some false) = Some false
kleene_and (Some true) None = None
kleene_and (Some false) (Some true) = Some false
kleene_and (Some false) (Some false) = Some false
kleene_and (Some false) None = Some false
kleene_and None (Some true) = None
kleene_and None (Some false) = Some false
kleene_and None None = None

abbrev pub kleene_or : Option Bool → Option Bool → Option Bool
kleene_or (Some true) (Some true) = Some true
kleene_or (Some true) (Some false) = Some true
kleene_or (Some true) None = Some true
kleene_or (Some false) (Some true) = Some true
kleene_or (Some false) (Some false) = Some false
kleene_or (Some false) None = None
kleene_or None (Some true) = Some true
kleene_or None (Some false) = None
kleene_or None None = None

abbrev pub kleene_not : Option Bool → Option Bool
kleene_not (Some true) = Some false
kleene_not (Some false) = Some true
kleene_not None = None
