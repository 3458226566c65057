pub mod ChanceLaws
