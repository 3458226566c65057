pub mod PaidLaws
