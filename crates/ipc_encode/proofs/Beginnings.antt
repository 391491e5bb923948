-- Columns that begin with values, and then perhaps have others.
use Rattle.std.proofs.Common.{sym, subst, ℕ, suc, zero, ◌<◌, List, [], ◌∷◌, ◌++◌, length, get_or, append_assoc, arith}
use Rattle.std.proofs.lemmas.List.{append-nil}
use Rattle.std.specs.Prelude.{slice_set}
use Rattle.ipc_model.specs.declared.layout.Layout.{Layout}
use Rattle.ipc_model.specs.declared.limits.Limits.{Limits}
use Rattle.ipc_model.specs.declared.value.Value.{Value}
use Rattle.ipc_column.specs.Shapes.{Shape, bare, field}
use Rattle.ipc_encode.specs.Buffers.{child_values}
use Rattle.ipc_encode.specs.Built.{AreNodes, BeginsWith, IsColumn, IsNode}
use Rattle.ipc_encode.specs.Numbers.{Numbering}
use Rattle.ipc_encode.specs.declared.column.ColumnBuilder.{ColumnBuilder}
use Rattle.ipc_encode.specs.declared.tree.Node.{Node, out-Node}
use Rattle.ipc_encode.proofs.Growing.{AreMixed}
use Rattle.ipc_encode.proofs.Steps.{below_append}

module _ (known : Numbering) (limits : Limits) where
  -- a column begins with the values that it has
  pub column_begins : (l : Layout) (vs : List Value) (column : ColumnBuilder) → IsColumn known limits l vs column
      → BeginsWith known limits l vs column
  column_begins l vs column h = ([], subst (λ (ws : List Value). IsColumn known limits l ws column) (sym (append-nil vs)) h)

  -- and with the first of these
  column_less : (l : Layout) (vs ws : List Value) (column : ColumnBuilder) → BeginsWith known limits l (vs ++ ws) column
      → BeginsWith known limits l vs column
  column_less l vs ws column h =
      (ws ++ h.0, subst (λ (us : List Value). IsColumn known limits l us column) (append_assoc vs ws h.0) h.1)

  pub nodes_begin : (shape : Shape) (nodes : List Node) (given : ℕ → List Value) → AreNodes (IsColumn known limits) shape nodes given
      → AreNodes (BeginsWith known limits) shape nodes given
  nodes_begin bare [] given h = tt
  nodes_begin bare (m ∷ ms) given h = absurd h
  nodes_begin (field k c rest) [] given h = absurd h
  nodes_begin (field k c rest) (m ∷ ms) given h = (
    (column_begins k (given 0) _ h.0.0, nodes_begin c _ (child_values k (given 0)) h.0.1),
    nodes_begin rest ms (λ j. given (suc j)) h.1,
  )

  pub nodes_less : (shape : Shape) (nodes : List Node) (given more : ℕ → List Value)
      → AreNodes (BeginsWith known limits) shape nodes (λ j. given j ++ more j) → AreNodes (BeginsWith known limits) shape nodes given
  nodes_less bare [] given more h = tt
  nodes_less bare (m ∷ ms) given more h = absurd h
  nodes_less (field k c rest) [] given more h = absurd h
  nodes_less (field k c rest) (m ∷ ms) given more h = (
    (
      column_less k (given 0) (more 0) _ h.0.0,
      nodes_less c _ (child_values k (given 0)) (child_values k (more 0))
          (subst (λ (inner : ℕ → List Value). AreNodes (BeginsWith known limits) c (out-Node m).children.items inner)
          (λ d j. below_append k (given 0) (more 0) j d) h.0.1),
    ),
    nodes_less rest ms (λ j. given (suc j)) (λ j. more (suc j)) h.1,
  )

  pub node_begins : (l : Layout) (c : Shape) (node : Node) (vs : List Value) → IsNode (IsColumn known limits) l c node vs
      → IsNode (BeginsWith known limits) l c node vs
  node_begins l c node vs h = (column_begins l vs _ h.0, nodes_begin c _ (child_values l vs) h.1)

  -- children that have what more values give
  pub below_less : (l : Layout) (c : Shape) (nodes : List Node) (vs ws : List Value)
      → AreNodes (BeginsWith known limits) c nodes (child_values l (vs ++ ws))
      → AreNodes (BeginsWith known limits) c nodes (child_values l vs)
  below_less l c nodes vs ws h = nodes_less c nodes (child_values l vs) (child_values l ws)
      (subst (λ (inner : ℕ → List Value). AreNodes (BeginsWith known limits) c nodes inner) (λ d j. below_append l vs ws j d) h)

  pub node_less : (l : Layout) (c : Shape) (node : Node) (vs ws : List Value) → IsNode (BeginsWith known limits) l c node (vs ++ ws)
      → IsNode (BeginsWith known limits) l c node vs
  node_less l c node vs ws h = (column_less l vs ws _ h.0, below_less l c _ vs ws h.1)

  -- the nodes before the one that begins with its values have more, and those behind it have theirs
  pub mixed_begin : (i : ℕ) (shape : Shape) (nodes : List Node) (given more : ℕ → List Value) (n d : Node) → i < length nodes
      → ((l : Layout) (c : Shape) → IsNode (IsColumn known limits) l c (get_or nodes i d) (given i)
      → IsNode (BeginsWith known limits) l c n (given i))
      → AreMixed (IsColumn known limits) (IsColumn known limits) i shape nodes given (λ j. given j ++ more j)
      → AreNodes (BeginsWith known limits) shape (slice_set nodes i n) given
  mixed_begin i bare [] given more n d l step h = absurd (omega arith)
  mixed_begin zero bare (m ∷ ms) given more n d l step h = absurd h
  mixed_begin (suc i) bare (m ∷ ms) given more n d l step h = absurd h
  mixed_begin zero (field k c rest) [] given more n d l step h = absurd h
  mixed_begin (suc i) (field k c rest) [] given more n d l step h = absurd h
  mixed_begin zero (field k c rest) (m ∷ ms) given more n d l step h = (step k c h.0, nodes_begin rest ms (λ j. given (suc j)) h.1)
  mixed_begin (suc i) (field k c rest) (m ∷ ms) given more n d l step h = (
    node_less k c m (given 0) (more 0) (node_begins k c m (given 0 ++ more 0) h.0),
    mixed_begin i rest ms (λ j. given (suc j)) (λ j. more (suc j)) n d (omega arith) step h.1,
  )
