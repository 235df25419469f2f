pub mod PushLemmas
