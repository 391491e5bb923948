pub mod FittingColumns
