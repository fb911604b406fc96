pub mod PicturesLemmas
