-- Trees with answers or polarities in place of their predicates have the shape of their tree.
use Rattle.std.proofs.Common.{Bool, List}
use Rattle.cfgx_grammar.specs.Tree.{Tree, Trees}
use Rattle.cfgx_grammar.proofs.Alike.{Alike, AlikeEach, SameShape, SameShapes}
use Rattle.cfg_expr.specs.Fold.{Left, left_for, answered, answered_each}
use Rattle.cfg_expr.specs.Filling.{polarities, polarities_each}

module _ {X T : Type 0} (otherwise : T) where
  mutual
    -- an answered tree has the shape of the tree
    pub answered-shape : (tree : Tree X) (answers : List T)
        → SameShape tree (answered otherwise tree answers)
    answered-shape (Tree.leaf x) answers = Alike.leaf _ _ tt
    answered-shape (Tree.literal truth) answers = Alike.literal truth
    answered-shape (Tree.list function trees) answers =
        Alike.list function _ _ (answered_each-shape trees _)
    answered-shape (Tree.not tree) answers = Alike.not _ _ (answered-shape tree answers)

    answered_each-shape : (trees : Trees X) (left : Left T)
        → SameShapes trees (answered_each otherwise trees left)
    answered_each-shape Trees.none left = AlikeEach.none
    answered_each-shape (Trees.more tree trees) left = AlikeEach.more _ _ _ _
        (answered-shape tree (left_for tree left)) (answered_each-shape trees _)

-- the tree of polarities has the shape of the tree
module _ {X : Type 0} where
  mutual
    pub polarities-shape : (polarity : Bool) (tree : Tree X)
        → SameShape tree (polarities polarity tree)
    polarities-shape polarity (Tree.leaf x) = Alike.leaf _ _ tt
    polarities-shape polarity (Tree.literal truth) = Alike.literal truth
    polarities-shape polarity (Tree.list function trees) =
        Alike.list function _ _ (polarities_each-shape polarity trees)
    polarities-shape polarity (Tree.not tree) = Alike.not _ _ (polarities-shape _ tree)

    pub polarities_each-shape : (polarity : Bool) (trees : Trees X)
        → SameShapes trees (polarities_each polarity trees)
    polarities_each-shape polarity Trees.none = AlikeEach.none
    polarities_each-shape polarity (Trees.more tree trees) = AlikeEach.more _ _ _ _
        (polarities-shape polarity tree) (polarities_each-shape polarity trees)
