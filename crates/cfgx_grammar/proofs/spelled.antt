-- Tokens that a tree spells are accepted, and what is built of them keeps the laws of the builder.
use Rattle.std.proofs.Common.{◌≡◌, ℕ, zero, suc, ◌+◌, ◌-◌, ◌<◌, true, false, List, [], ◌∷◌, ◌++◌}
use Rattle.std.proofs.Common.{Option, Some, None, Ok, sym, refl, ap, ◌∙◌, arith, add-zero}
use Rattle.std.proofs.Common.{append_assoc, length, take, drop, append-nil}
use Rattle.std.proofs.Math.Seq.{take-append_seam, drop-append_seam}
use Rattle.cfgx_syntax.specs.{Token.Token, Items.Item, Items.Ending}
use Rattle.cfgx_grammar.specs.Question.{Leaf, Question}
use Rattle.cfgx_grammar.specs.FollowSet.{TokenKind, takes}
use Rattle.cfgx_grammar.specs.{Classification.Class, Classification.class, FirstFault.lacks_value}
use Rattle.cfgx_grammar.specs.{LastPredicate.located_text, LastPredicate.class_of}
use Rattle.cfgx_grammar.specs.parsing.State.{initial}
use Rattle.cfgx_grammar.specs.{Tree.ListFunction, Tree.Tree, Tree.Trees, Tree.count, Grammar.IsTree}
use Rattle.cfgx_grammar.specs.Grammar.{commas, Separates, leaf_tokens, IsCall, IsMember, IsList}
use Rattle.cfgx_grammar.specs.parsing.State.{Function, Pending, Builder, Open, State, name_of}
use Rattle.cfgx_grammar.specs.parsing.Step.{with_member, one_more, ended_by, predicate_ended}
use Rattle.cfgx_grammar.specs.parsing.Step.{new_open, allows_count, function_ended, closed_by}
use Rattle.cfgx_grammar.specs.parsing.Step.{with_parens, step_each, answer_from, step}
use Rattle.cfgx_grammar.proofs.accepted.{leaf_tree, tokens_of, ok_same, ran}

-- The tokens of a tree are accepted from any state in which a member may follow.

-- a pending predicate: a key, or a key with its value
abbrev pub key_at : Item → List ℕ → Pending
key_at x key = record { key = located_text key x.start x.end; value = None }

abbrev pub value_at : Item → List ℕ → Item → List ℕ → Pending
value_at x key z value = record {
  key = located_text key x.start x.end;
  value = Some (located_text value (z.start + 1) (z.end - 1));
}

-- the law of a call: what is built of a function that has these members
abbrev pub Calls : {W M L : Type 0} → Builder W M L → (List Item → W → W → Tree Question → Type 0)
    → (List Item → W → W → Trees Question → Type 0) → Function → Tree Question → Trees Question
    → Type 0
Calls {W} builder MemberBuilds ListBuilds function tree trees = (head opening closing : Item)
    (members : List Item) (w v : W) → ListBuilds members (builder.function w) v trees
    → MemberBuilds (head ∷ opening ∷ (members ++ closing ∷ [])) w
    (builder.function_ended (builder.mark_of w) function (count trees) v) tree

-- The laws of a builder. `MemberBuilds` and `ListBuilds` say that the tokens of a tree or a list
-- change what is built from the first to the second.
pub record Laws {W M L : Type 0} (builder : Builder W M L) : Type 1 where
  pub MemberBuilds : List Item → W → W → Tree Question → Type 0
  pub ListBuilds : List Item → W → W → Trees Question → Type 0
  pub key : (x : Item) (key : List ℕ) (leaf : Leaf) (w : W) → x.token ≡ Token.key key
      → class key None ≡ Class.is leaf
      → MemberBuilds (x ∷ []) w (builder.leaf (builder.located (key_at x key) leaf) w)
      (leaf_tree leaf)
  pub value : (x y z : Item) (key value : List ℕ) (leaf : Leaf) (w : W)
      → x.token ≡ Token.key key → z.token ≡ Token.value value
      → class key (Some value) ≡ Class.is leaf
      → MemberBuilds (x ∷ y ∷ z ∷ []) w
      (builder.leaf (builder.located (value_at x key z value) leaf) w) (leaf_tree leaf)
  pub none : (w : W) → ListBuilds [] w w Trees.none
  pub more : (xs ys zs : List Item) (tree : Tree Question) (trees : Trees Question) (w v u : W)
      → MemberBuilds xs w v tree → ListBuilds zs v u trees
      → ListBuilds (xs ++ (ys ++ zs)) w u (Trees.more tree trees)
  pub list : (function : ListFunction) (trees : Trees Question) → Calls builder MemberBuilds
      ListBuilds (Function.list function) (Tree.list function trees) trees
  pub not : (tree : Tree Question)
      → Calls builder MemberBuilds ListBuilds Function.not (Tree.not tree)
      (Trees.more tree Trees.none)

-- the items of tokens in two parts, and of one token
split_items : (items : List Item) (front back : List Token) → tokens_of items ≡ front ++ back
    → (xs : List Item) × (ys : List Item) × (items ≡ xs ++ ys) × (tokens_of xs ≡ front)
    × (tokens_of ys ≡ back)
split_items items [] back is = ([], items, refl, refl, is)
split_items [] (token ∷ front) back is = absurd (cc)
split_items (x ∷ items) (token ∷ front) back is =
    let (xs, ys, are, xs_are, ys_are) = split_items items front back (cc) in
    (x ∷ xs, ys, ap (λ l. x ∷ l) are, (cc), ys_are)

one_item : (items : List Item) (token : Token) → tokens_of items ≡ token ∷ []
    → (x : Item) × (items ≡ x ∷ []) × (x.token ≡ token)
one_item (x ∷ []) token is = (x, refl, (cc))
one_item _ token is = absurd (cc)

no_items : (items : List Item) → tokens_of items ≡ [] → items ≡ []
no_items [] is = refl
no_items (x ∷ items) is = absurd (cc)

-- `)`, `,` or the end may follow, as after a member and the commas behind it
abbrev IsEnd : Option Token → Type 0
IsEnd last = (takes last TokenKind.closing ≡ true) × (takes last TokenKind.comma ≡ true)
    × (lacks_value last ≡ false)

-- the function with `n` more members
abbrev more : {M : Type 0} → ℕ → Open M → Open M
more n f = record f { ended_members = f.ended_members + n }

module _ {W M L : Type 0} {builder : Builder W M L} where
  -- the state with `n` more members of the innermost list
  abbrev grown : ℕ → State builder → State builder
  grown zero s = s
  grown (suc n) s = grown n (with_member s)

  abbrev settled : State builder → W → State builder
  settled s written = record s { pending = None; written = written }

  -- the settled state with one more member
  abbrev pub between : State builder → W → State builder
  between s written = with_member (settled s written)

  -- the members are counted in the innermost function
  grown_top : (n : ℕ) (s : State builder) (top : Open M) (rest : List (Open M))
      → grown n (record s { stack = top ∷ rest }) ≡ record s { stack = more n top ∷ rest }
  grown_top zero s top rest = rw add-zero refl
  grown_top (suc n) s top rest = grind (arith, grown_top n s (one_more top) rest)

  -- the state before the members of a function
  abbrev pub inside : State builder → Function → Item → Item → State builder
  inside s function head opening = record s {
    stack = with_parens opening.start (new_open s function head) ∷ s.stack;
    written = builder.function s.written;
  }

  opens : (last : Option Token) (s : State builder) (function : Function) (head opening : Item)
      (rest : List Item) → takes last TokenKind.name ≡ true → head.token ≡ name_of function
      → opening.token ≡ Token.open_paren → step_each last s (head ∷ opening ∷ rest)
      ≡ step_each (Some Token.open_paren) (inside s function head opening) rest
  opens last s function head opening rest may named is = grind arith

  -- the steps of items in two parts
  steps_both : (xs ys : List Item) (last : Option Token) (s : State builder)
      (read : Option Token × State builder) → step_each last s xs ≡ Ok read
      → step_each last s (xs ++ ys) ≡ step_each read.0 read.1 ys
  steps_both [] ys last s read runs = ap (λ r. step_each r.0 r.1 ys) (ok_same (last, s) read runs)
  steps_both (x ∷ xs) ys last s read runs =
      let (t, steps, rest) = ran (step last s x) (λ t. step_each (Some x.token) t xs) read runs in
      rw steps (steps_both xs ys (Some x.token) t read rest)

  -- commas after a member that ends
  commas_run : (n : ℕ) (xs : List Item) (last : Option Token) (s t : State builder) (written : W)
      → tokens_of xs ≡ Token.comma ∷ commas n → takes last TokenKind.comma ≡ true
      → predicate_ended t ≡ Ok (between s written)
      → step_each last t xs ≡ Ok (Some Token.comma, between s written)
  commas_run zero (x ∷ []) last s t written are may ends = grind arith
  commas_run (suc n) (x ∷ xs) last s t written are may ends =
      let x_is : x.token ≡ Token.comma = cc in
      rw (x_is, may, ends) (commas_run n xs _ s _ written (cc) refl refl)
  commas_run _ _ last s t written are may ends = absurd (cc)

module _ {W M L : Type 0} {builder : Builder W M L} (laws : Laws builder) where
  -- The last token and the state when these items have been taken, a member and `n` commas after
  -- it; the predicate has ended, or ends there.
  pub record MemberEnds (last : Option Token) (s : State builder) (items member : List Item)
      (n : ℕ) (tree : Tree Question) : Type 0 where
    pub read : Option Token × State builder
    pub written : W
    pub runs : step_each last s items ≡ Ok read
    pub is_end : IsEnd read.0
    pub ends : predicate_ended read.1 ≡ Ok (between s written)
    pub builds : laws.MemberBuilds member s.written written tree
    pub members_come : 0 < n → read ≡ (Some Token.comma, between s written)

  -- the last token and the state when the items of a list have been taken
  pub record ListEnds (last : Option Token) (s : State builder) (items : List Item)
      (trees : Trees Question) : Type 0 where
    pub read : Option Token × State builder
    pub written : W
    pub runs : step_each last s items ≡ Ok read
    pub closes : takes read.0 TokenKind.closing ≡ true
    pub ends : predicate_ended read.1 ≡ Ok (grown (count trees) (settled s written))
    pub builds : laws.ListBuilds items s.written written trees

  -- a predicate or a literal, whose tokens have been taken
  MemberEnds-pending : (last : Option Token) (s : State builder) (items : List Item)
      (pending : Pending) (end : Token) (leaf : Leaf)
      → step_each last s items ≡ Ok (Some end, record s { pending = Some pending })
      → IsEnd (Some end) → class_of pending ≡ Class.is leaf
      → laws.MemberBuilds items s.written
      (builder.leaf (builder.located pending leaf) s.written) (leaf_tree leaf)
      → MemberEnds last s items items 0 (leaf_tree leaf)
  MemberEnds-pending last s items pending end leaf runs is_end says builds = record {
    read = (Some end, record s { pending = Some pending });
    written = _;
    runs = runs;
    is_end = is_end;
    ends = rw says refl;
    builds = builds;
    members_come = λ some. absurd (omega arith);
  }

  MemberEnds-leaf : (last : Option Token) (s : State builder) (items : List Item) (leaf : Leaf)
      (key : List ℕ) (value : Option (List ℕ)) → takes last TokenKind.name ≡ true
      → tokens_of items ≡ leaf_tokens key value → class key value ≡ Class.is leaf
      → MemberEnds last s items items 0 (leaf_tree leaf)
  MemberEnds-leaf last s (x ∷ []) leaf key None may is classed =
      let x_is : x.token ≡ Token.key key = cc in
      MemberEnds-pending last s _ (key_at x key) (Token.key key) leaf (rw (x_is, may) refl)
      (refl, refl, refl) classed (laws.key x key leaf s.written x_is classed)
  MemberEnds-leaf last s (x ∷ y ∷ z ∷ []) leaf key (Some value) may is classed =
      let x_is : x.token ≡ Token.key key = cc in
      let y_is : y.token ≡ Token.equals = cc in
      let z_is : z.token ≡ Token.value value = cc in
      MemberEnds-pending last s _ (value_at x key z value) (Token.value value) leaf
      (rw (x_is, may, y_is, z_is) refl) (refl, refl, refl) classed
      (laws.value x y z key value leaf s.written x_is z_is classed)
  MemberEnds-leaf last s _ leaf key None may is classed = absurd (cc)
  MemberEnds-leaf last s _ leaf key (Some value) may is classed = absurd (cc)

  -- commas after a member
  pub MemberEnds-commas : (n : ℕ) (last : Option Token) (s : State builder)
      (member beyond : List Item) (tree : Tree Question) → tokens_of beyond ≡ commas n
      → MemberEnds last s member member 0 tree → MemberEnds last s (member ++ beyond) member n tree
  MemberEnds-commas zero last s member beyond tree are i = grind (arith, no_items, append-nil)
  MemberEnds-commas (suc n) last s member beyond tree are i = record {
    read = (Some Token.comma, between s i.written);
    written = i.written;
    runs = steps_both member beyond last s i.read i.runs
        ∙ commas_run n beyond i.read.0 s i.read.1 i.written are i.is_end.1 i.ends;
    is_end = (refl, refl, refl);
    ends = refl;
    builds = i.builds;
    members_come = λ some. refl;
  }

  -- the last member of a list, and a member before others
  ListEnds-one : (last : Option Token) (s : State builder) (member beyond : List Item) (n : ℕ)
      (tree : Tree Question) → MemberEnds last s (member ++ beyond) member n tree
      → ListEnds last s (member ++ beyond) (Trees.more tree Trees.none)
  ListEnds-one last s member beyond n tree i = record {
    read = i.read;
    written = i.written;
    runs = i.runs;
    closes = i.is_end.0;
    ends = i.ends;
    builds = rw append-nil at
        (laws.more member beyond [] tree Trees.none _ _ _ i.builds (laws.none i.written));
  }

  ListEnds-more : (last : Option Token) (s : State builder) (member beyond others : List Item)
      (n : ℕ) (tree : Tree Question) (trees : Trees Question)
      → MemberEnds last s (member ++ beyond) member n tree → Separates n trees
      → IsList (tokens_of others) trees
      → ((t : State builder) → t.pending ≡ None → ListEnds (Some Token.comma) t others trees)
      → ListEnds last s (member ++ (beyond ++ others)) (Trees.more tree trees)
  ListEnds-more last s member beyond others n tree Trees.none i some list go_on =
      rw (no_items others list, append-nil beyond) (ListEnds-one last s member beyond n tree i)
  ListEnds-more last s member beyond others n tree (Trees.more second trees) i some list go_on =
      let l = go_on (between s i.written) refl in
      record {
        read = l.read;
        written = l.written;
        runs = rw (← append_assoc member beyond others) (steps_both (member ++ beyond) others last
            s _ (i.runs ∙ ap Ok (i.members_come some)) ∙ l.runs);
        closes = l.closes;
        ends = l.ends;
        builds = laws.more _ _ _ tree (Trees.more second trees) _ _ _ i.builds l.builds;
      }

  -- a call, by its members
  MemberEnds-call : (last : Option Token) (s : State builder) (items : List Item)
      (function : Function) (inner : List Token) (tree : Tree Question) (trees : Trees Question)
      → takes last TokenKind.name ≡ true → IsCall (name_of function) (tokens_of items) inner
      → allows_count function (count trees) ≡ true
      → Calls builder laws.MemberBuilds laws.ListBuilds function tree trees
      → ((start : State builder) (members : List Item) → start.pending ≡ s.pending
      → tokens_of members ≡ inner → ListEnds (Some Token.open_paren) start members trees)
      → MemberEnds last s items items 0 tree
  MemberEnds-call last s (x ∷ y ∷ items) function inner tree trees may call room calls list =
      let (first, rest, are, first_are, rest_is) = split_items items inner _ (cc) in
      let (z, one, z_is) = one_item rest Token.close_paren rest_is in
      let l = list (inside s function x y) first refl first_are in
      let top = more (count trees) (with_parens y.start (new_open s function x)) in
      let full = record (settled (inside s function x y) l.written) { stack = top ∷ s.stack } in
      let members : 0 + count trees ≡ count trees = omega arith in
      let ends = l.ends ∙ ap Ok (grown_top (count trees) full _ s.stack) in
      let t = l.read.1 in
      let closed : closed_by t z t.stack ≡ Ok (function_ended (top ∷ s.stack) full) = grind arith in
      rw (are, one) (record {
        read = (Some Token.close_paren, function_ended (top ∷ s.stack) full);
        written = builder.function_ended (builder.mark_of s.written) function (0 + count trees)
            l.written;
        runs = opens last s function x y _ may (cc) (cc)
            ∙ steps_both first _ _ _ l.read l.runs ∙ rw (z_is, l.closes, closed) refl;
        is_end = (refl, refl, refl);
        ends = refl;
        builds = rw members (calls x y z first s.written l.written l.builds);
        members_come = λ some. absurd (omega arith);
      })
  MemberEnds-call last s _ function inner tree trees may call room calls list = absurd (cc)

  mutual
    pub MemberEnds-member : (tree : Tree Question) (last : Option Token) (s : State builder)
        (items : List Item) → takes last TokenKind.name ≡ true → s.pending ≡ None
        → IsMember (tokens_of items) tree → MemberEnds last s items items 0 tree
    MemberEnds-member (Tree.leaf question) last s items may none (key, value, are, says) =
        MemberEnds-leaf last s items (Leaf.predicate question) key value may are says
    MemberEnds-member (Tree.literal truth) last s items may none (key, value, are, says) =
        MemberEnds-leaf last s items (Leaf.literal truth) key value may are says
    MemberEnds-member (Tree.list function trees) last s items may none (inner, call, list) =
        MemberEnds-call last s items (Function.list function) inner _ trees may call refl
        (laws.list function trees)
        (λ t members same are. ListEnds-list trees _ t members refl refl (same ∙ none)
        (rw are list))
    MemberEnds-member (Tree.not tree) last s items may none (inner, n, call, spelled) =
        MemberEnds-call last s items Function.not (inner ++ commas n) _
        (Trees.more tree Trees.none) may call refl (laws.not tree) (λ t members same are.
        let (xs, ys, both, xs_are, ys_are) = split_items members inner (commas n) are in
        rw both (ListEnds-one _ t xs ys n tree (MemberEnds-commas n _ t xs ys tree ys_are
        (MemberEnds-member tree _ t xs refl (same ∙ none) (rw xs_are spelled)))))

    ListEnds-list : (trees : Trees Question) (last : Option Token) (s : State builder)
        (items : List Item) → takes last TokenKind.name ≡ true → takes last TokenKind.closing ≡ true
        → s.pending ≡ None → IsList (tokens_of items) trees → ListEnds last s items trees
    ListEnds-list Trees.none last s items named close none list =
        let empty : ListEnds last s [] Trees.none = record {
          read = (last, s);
          written = s.written;
          runs = refl;
          closes = close;
          ends = ap (ended_by s) none ∙ (λ i. Ok (record s { pending = none i }));
          builds = laws.none s.written;
        } in
        rw (no_items items list) empty
    ListEnds-list (Trees.more tree trees) last s items named closing none
        (front, n, others, are, some, spelled, list) =
        let (xs, rest, both, xs_are, rest_are) = split_items items front (commas n ++ others) are in
        let (ys, zs, again, ys_are, zs_are) = split_items rest (commas n) others rest_are in
        let i = MemberEnds-member tree last s xs named none (rw xs_are spelled) in
        rw (both, again) (ListEnds-more last s xs ys zs n tree trees
        (MemberEnds-commas n last s xs ys tree ys_are i) some (rw zs_are list)
        (λ t settled. ListEnds-list trees _ t zs refl refl settled (rw zs_are list)))

-- The builder that builds the tree itself.

-- the trees of a list as the members of a function
abbrev trees_of : List (Tree Question) → Trees Question
trees_of [] = Trees.none
trees_of (tree ∷ trees) = Trees.more tree (trees_of trees)

-- a function's tree, of its members; a `not` always has one
abbrev called : Function → List (Tree Question) → Tree Question
called (Function.list function) trees = Tree.list function (trees_of trees)
called Function.not [] = Tree.list ListFunction.all Trees.none
called Function.not (tree ∷ trees) = Tree.not tree

-- the builder of trees: it keeps the trees of open lists that have ended, those of inner lists last
abbrev pub tree_builder : Builder (List (Tree Question)) ℕ Leaf
tree_builder = record {
  nothing = [];
  mark_of = length;
  located = λ p leaf. leaf;
  leaf = λ leaf trees. trees ++ leaf_tree leaf ∷ [];
  function = λ trees. trees;
  function_ended = λ mark function members trees.
      take mark trees ++ called function (drop mark trees) ∷ [];
  root_ended = λ trees. trees;
}

abbrev list_of : Trees Question → List (Tree Question)
list_of Trees.none = []
list_of (Trees.more tree trees) = tree ∷ list_of trees

trees_listed : (trees : Trees Question) → trees_of (list_of trees) ≡ trees
trees_listed Trees.none = refl
trees_listed (Trees.more tree trees) = ap (Trees.more tree) (trees_listed trees)

calls : (function : Function) (tree : Tree Question) (trees : Trees Question)
    → called function (list_of trees) ≡ tree → Calls tree_builder (λ items w v t. v ≡ w ++ t ∷ [])
    (λ items w v ts. v ≡ w ++ list_of ts) function tree trees
calls function tree trees is head opening closing members w v built =
    grind (arith, take-append_seam, drop-append_seam)

pub tree_laws : Laws tree_builder
tree_laws = record {
  MemberBuilds = λ items w v tree. v ≡ w ++ tree ∷ [];
  ListBuilds = λ items w v trees. v ≡ w ++ list_of trees;
  key = λ x key leaf w is classed. refl;
  value = λ x y z key value leaf w x_is z_is classed. refl;
  none = λ w. sym (append-nil w);
  more = λ xs ys zs tree trees w v u first others.
      others ∙ ap (λ l. l ++ list_of trees) first ∙ append_assoc w (tree ∷ []) (list_of trees);
  list = λ function trees. calls (Function.list function) (Tree.list function trees) trees
      (ap (Tree.list function) (trees_listed trees));
  not = λ tree. calls Function.not (Tree.not tree) (Trees.more tree Trees.none) refl;
}

pub tree_built : (items : List Item) (built : List (Tree Question)) (tree : Tree Question)
    → tree_laws.MemberBuilds items [] built tree → built ≡ tree ∷ []
unfolding tree_laws
tree_built items built tree is = is

-- A text whose tokens a tree spells is accepted.

module _ {W M L : Type 0} {builder : Builder W M L} (laws : Laws builder) where
  -- the tokens are accepted, and the tree is built of the first of them; the others are commas
  pub record Finds (text : List ℕ) (items : List Item) (ending : Ending) (tree : Tree Question)
      : Type 0 where
    pub first : List Item
    pub rest : List Item
    pub items_are : items ≡ first ++ rest
    pub written : W
    pub builds : laws.MemberBuilds first builder.nothing written tree
    pub whole : State builder
    pub answers : answer_from None initial text items ending ≡ Ok whole
    pub whole_is : whole.written ≡ builder.root_ended written

  pub Finds-tree : (text : List ℕ) (items : List Item) (tree : Tree Question)
      → IsTree (tokens_of items) tree → Finds text items Ending.blank tree
  Finds-tree text items tree (member, n, is, spelled) =
      let (xs, ys, both, xs_are, ys_are) = split_items items member (commas n) is in
      let i = MemberEnds-commas laws n None initial xs ys tree ys_are
      (MemberEnds-member laws tree None initial xs refl refl (rw xs_are spelled)) in
      record {
        first = xs;
        rest = ys;
        items_are = both;
        written = i.written;
        builds = i.builds;
        whole = record (between initial i.written) { written = builder.root_ended i.written };
        answers = grind (arith, both, i.runs, i.is_end.2);
        whole_is = refl;
      }
